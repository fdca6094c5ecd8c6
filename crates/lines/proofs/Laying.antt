-- Some text after some text; what a loop has laid so far, with what is left.
use Prim.Native.Nat.{ℕ}
use mathlib.Core.Path.{◌≡◌, refl, ◌∙◌}
use mathlib.Core.List.{List, [], ◌++◌, append_assoc, append-nil}
use Rattle.printing.specs.Promises.{Lays}
use Rattle.printing.proofs.Laying.{none-laid, then}
use Rattle.lines.specs.Promises.{Wrote}

pub some-laid : {l : List ℕ} {at : ℕ} {t m : List ℕ} {e : ℕ} → Lays l at t m e → Wrote l at m e
some-laid {t = t} h = record { text = t; lays = h }

pub nothing : (l : List ℕ) (at : ℕ) → Wrote l at l at
nothing l at = some-laid (none-laid l at)

pub and_then : {l : List ℕ} {at : ℕ} {m : List ℕ} {e : ℕ} {l₂ : List ℕ} {e₂ : ℕ} → Wrote l at m e → Wrote m e l₂ e₂ → Wrote l at l₂ e₂
and_then h g = some-laid (then h.lays g.lays)

pub laid_then : {l : List ℕ} {at : ℕ} {t m : List ℕ} {e : ℕ} {l₂ : List ℕ} {e₂ : ℕ} → Lays l at t m e → Wrote m e l₂ e₂ → Wrote l at l₂ e₂
laid_then h g = and_then (some-laid h) g

pub ruleset writing = (nothing, laid_then, and_then, some-laid)

-- ---- A loop: what is laid, with what is left, is the whole

pub record Going (l : List ℕ) (at : ℕ) (whole left now : List ℕ) (end : ℕ) : Type 0 where
  pub so_far : List ℕ
  pub laid : Lays l at so_far now end
  pub joined : so_far ++ left ≡ whole

pub going : (l : List ℕ) (at : ℕ) (whole : List ℕ) → Going l at whole whole l at
going l at whole = record { so_far = []; laid = none-laid l at; joined = refl }

pub goes_on : {l : List ℕ} {at : ℕ} {whole a left now : List ℕ} {end : ℕ} {now₁ : List ℕ} {end₁ : ℕ} → Going l at whole (a ++ left) now end → Lays now end a now₁ end₁ → Going l at whole left now₁ end₁
goes_on {a = a} {left = left} g h = record { so_far = g.so_far ++ a; laid = then g.laid h; joined = append_assoc g.so_far a left ∙ g.joined }

pub gone : {l : List ℕ} {at : ℕ} {whole now : List ℕ} {end : ℕ} → Going l at whole [] now end → Lays l at whole now end
gone {l} {at} {whole} {now} {end} g = rw (← g.joined, append-nil) g.laid
