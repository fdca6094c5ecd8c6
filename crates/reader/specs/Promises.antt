-- Which words are a record's.
use Rattle.std.specs.Prelude.{ℕ, ◌+◌, ◌≡◌, List, [], ◌∷◌, get_or, drop, Option, None, Some}
use Rattle.std.specs.Iterator.{YieldsFirst}
use Rattle.reader.specs.declared.Record.{Record}
use Rattle.reader.specs.declared.Reader.{Reader}

-- The record that starts at a place: the word there is its kind, the next one its argument; 0 for a word past the end.
abbrev pub record_at : List ℕ → ℕ → Record
record_at words at = record { kind = get_or words at 0; argument = get_or words (at + 1) 0 }

-- the records of a list of words, one after the other; a lone word at the end is a kind with the argument 0
abbrev pub records : List ℕ → List Record
records [] = []
records (k ∷ []) = record { kind = k; argument = 0 } ∷ []
records (k ∷ a ∷ ws) = record { kind = k; argument = a } ∷ records ws

-- the records that a reader has still to give
abbrev pub left : Reader → List Record
left r = records (drop r.at r.words.now)

-- the place after a call of `next`: two words on where there was a record
abbrev pub moved : Option Record → ℕ → ℕ
moved None at = at
moved (Some x) at = at + 2

-- a call of `next`: the first record that is left, or none; the words stay, and the place moves on
abbrev pub Reads : Reader → Option Record → Reader → Type 0
Reads old item new = YieldsFirst left old item new × (new.words ≡ old.words) × (new.at ≡ moved item old.at)
