-- Which field of the code's settings is which of scope's.
use Rattle.scope.specs.Stack.{Config, config}
use Rattle.operations.specs.declared.ScheduleConfig.{ScheduleConfig}

-- the settings
abbrev pub config_of : ScheduleConfig → Config
config_of s = config s.max_swap_depth s.max_dup_depth s.max_exchange_range s.exchange_cost
