-- What the part routine answers, in scope's words.
use Rattle.std.specs.Prelude.{ℕ, List}
use Rattle.indices.specs.declared.Side.{Side}
use Rattle.indices.specs.declared.Side.TheVariants.{Current, Target}

-- the stack that a side names
abbrev pub sided : List ℕ → List ℕ → Side → List ℕ
sided C T Current = C
sided C T Target = T
