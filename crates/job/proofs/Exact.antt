-- Bytes are parsed to a job exactly where they are that job's bytes and it is within the limits.
use Prim.Native.Nat.{ℕ, zero, suc, ◌+◌, ◌*◌, ◌/◌, ◌%◌, ◌≤◌}
use native.Mathlib.Omega.{arith}
use native.Mathlib.Nat.{add-zero, add_assoc, div-eq_of_lt-le, div-add-mod, div-div-eq-div-mul, mod-eq_of_lt}
use mathlib.Core.Path.{◌≡◌, refl, sym, ap, ◌∙◌}
use mathlib.Core.Bool.{Bool, true, false}
use Rattle.std.proofs.Common.{Some as some}
use Rattle.std.proofs.lemmas.Option.{none-some as none-ne-some, same_Some as some-injective}
use mathlib.Core.List.{List, [], ◌∷◌, ◌++◌, append_assoc, append-nil}
use mathlib.Core.Logic.{◌↔◌}
use lib.ListN.{length, get_or, drop, length-append, drop_of_length-le}
use lib.Seq.{drop-cons, get_or-append-add}
use Rattle.scope.specs.Codes.{MAX-WORD}
use Rattle.scope.specs.JobFile.{JobFile, word_bytes, bytes_of, job_bytes, AllWords, Fits, word_at, words_at, is_job, read_job, parsed, spilled_at, target_at, end_at}
use Rattle.scope.specs.JobFile.AllWords.{no_words, one_more}
use Rattle.job.specs.Promises.{AllBytes}
use Rattle.job.proofs.Reading.{IsJob, is-a-job, a-job, length-words}

-- ---- A word and its four bytes

split : (a m : ℕ) → a ≤ 255 → ((a + 256 * m) / 256 ≡ m) × ((a + 256 * m) % 256 ≡ a)
split a m h =
    let e : (a + 256 * m) / 256 ≡ m = div-eq_of_lt-le {k = m} 256 {m = a + 256 * m} (omega arith) (omega arith) in
    let d = div-add-mod (a + 256 * m) 256 in
    (e, omega arith)

word-of-bytes : (a b c d : ℕ) → a ≤ 255 → b ≤ 255 → c ≤ 255 → d ≤ 255 → word_bytes (a + 256 * b + 65536 * c + 16777216 * d) ≡ a ∷ b ∷ c ∷ d ∷ []
word-of-bytes a b c d ha hb hc hd =
    let z : a + 256 * b + 65536 * c + 16777216 * d ≡ a + 256 * (b + 256 * (c + 256 * d)) = omega arith in
    let v = a + 256 * (b + 256 * (c + 256 * d)) in
    let t1 = split a (b + 256 * (c + 256 * d)) ha in
    let t2 = split b (c + 256 * d) hb in
    let t3 = split c d hc in
    rw (
      z,
      ← div-div-eq-div-mul v 256 65536,
      ← div-div-eq-div-mul v 256 256,
      ← div-div-eq-div-mul (v / 256) 256 256,
      t1.0,
      t1.1,
      t2.0,
      t2.1,
      t3.0,
      t3.1,
      mod-eq_of_lt {n = d} {m = 256} (omega arith),
    )

summed : (v q r p s o t : ℕ) → 256 * q + r ≡ v → 256 * p + s ≡ q → 256 * o + t ≡ p → r + 256 * s + 65536 * t + 16777216 * o ≡ v
summed v q r p s o t e f g = omega arith

bytes-of-word : (v : ℕ) → v ≤ MAX-WORD → v % 256 + 256 * (v / 256 % 256) + 65536 * (v / 65536 % 256) + 16777216 * (v / 16777216 % 256) ≡ v
bytes-of-word v h =
    let e2 : v / 256 / 256 ≡ v / 65536 = div-div-eq-div-mul v 256 256 in
    let e3 : v / 65536 / 256 ≡ v / 16777216 = div-div-eq-div-mul v 65536 256 in
    rw (mod-eq_of_lt {n = v / 16777216} {m = 256} (omega arith))
    (summed v (v / 256) (v % 256) (v / 65536) (v / 256 % 256) (v / 16777216) (v / 65536 % 256)
    (div-add-mod v 256) (rw e2 at (div-add-mod (v / 256) 256)) (rw e3 at (div-add-mod (v / 65536) 256)))

word_fits : (bs : List ℕ) → AllBytes bs → (i : ℕ) → word_at bs i ≤ MAX-WORD
word_fits bs small i = omega (arith, small i, small (i + 1), small (i + 2), small (i + 3))

words-fit : (bs : List ℕ) → AllBytes bs → (i k : ℕ) → AllWords (words_at bs i k)
unfolding words_at
words-fit bs small i zero = no_words
words-fit bs small i (suc k) = one_more (word_at bs i) (words_at bs (i + 4) k) (word_fits bs small i) (words-fit bs small (i + 4) k)

-- ---- Bytes, read and written again

next-four : (bs : List ℕ) (i : ℕ) → i + 4 ≤ length bs → get_or bs i 0 ∷ get_or bs (i + 1) 0 ∷ get_or bs (i + 2) 0 ∷ get_or bs (i + 3) 0 ∷ drop (i + 4) bs ≡ drop i bs
next-four bs i h =
    let e1 : i + 1 ≡ suc i = omega arith in
    let e2 : i + 2 ≡ suc (suc i) = omega arith in
    let e3 : i + 3 ≡ suc (suc (suc i)) = omega arith in
    let e4 : i + 4 ≡ suc (suc (suc (suc i))) = omega arith in
    rw (
      e1,
      e2,
      e3,
      e4,
      drop-cons bs i 0 (omega arith),
      drop-cons bs (suc i) 0 (omega arith),
      drop-cons bs (suc (suc i)) 0 (omega arith),
      drop-cons bs (suc (suc (suc i))) 0 (omega arith),
    )

four : (bs : List ℕ) → AllBytes bs → (i : ℕ) → i + 4 ≤ length bs → word_bytes (word_at bs i) ++ drop (i + 4) bs ≡ drop i bs
four bs small i h =
    ap (λ (r : List ℕ). r ++ drop (i + 4) bs)
    (word-of-bytes (get_or bs i 0) (get_or bs (i + 1) 0) (get_or bs (i + 2) 0) (get_or bs (i + 3) 0) (small i) (small (i + 1)) (small (i + 2)) (small (i + 3)))
    ∙ next-four bs i h

again : (bs : List ℕ) → AllBytes bs → (i k : ℕ) → i + 4 * k ≤ length bs → bytes_of (words_at bs i k) ++ drop (i + 4 * k) bs ≡ drop i bs
unfolding words_at bytes_of
again bs small i zero h = rw add-zero
again bs small i (suc k) h =
    let m : i + 4 * suc k ≡ i + 4 + 4 * k = omega arith in
    rw (append_assoc, m) (ap (λ (r : List ℕ). word_bytes (word_at bs i) ++ r) (again bs small (i + 4) k (omega arith)) ∙ four bs small i (omega arith))

-- ---- Words, written and read again

length-bytes : (ws : List ℕ) → length (bytes_of ws) ≡ 4 * length ws
unfolding bytes_of
length-bytes [] = refl
length-bytes (v ∷ ws) = omega (arith, length-bytes ws)

bytes-append : (x y : List ℕ) → bytes_of (x ++ y) ≡ bytes_of x ++ bytes_of y
unfolding bytes_of
bytes-append [] y = refl
bytes-append (v ∷ x) y = ap (λ (r : List ℕ). word_bytes v ++ r) (bytes-append x y)

further : (pre bs : List ℕ) (i : ℕ) → word_at (pre ++ bs) (length pre + i) ≡ word_at bs i
further pre bs i =
    rw (add_assoc (length pre) i 1, add_assoc (length pre) i 2, add_assoc (length pre) i 3, get_or-append-add pre bs i, get_or-append-add pre bs (i + 1), get_or-append-add pre bs (i + 2), get_or-append-add pre bs (i + 3))

all-further : (pre bs : List ℕ) (i k : ℕ) → words_at (pre ++ bs) (length pre + i) k ≡ words_at bs i k
unfolding words_at
all-further pre bs i zero = refl
all-further pre bs i (suc k) = rw (further pre bs i, add_assoc (length pre) i 4) (ap (λ (r : List ℕ). word_at bs i ∷ r) (all-further pre bs (i + 4) k))

here : (ws rest : List ℕ) → AllWords ws → words_at (bytes_of ws ++ rest) 0 (length ws) ≡ ws
unfolding words_at bytes_of
here [] rest h = refl
here (v ∷ ws) rest (one_more _ _ h hs) =
    rw (bytes-of-word v h) (ap (λ (r : List ℕ). v ∷ r) (all-further (word_bytes v) (bytes_of ws ++ rest) 0 (length ws) ∙ here ws rest hs))

-- the words in the middle of a file
part : (pre ws post : List ℕ) (i : ℕ) → AllWords ws → i ≡ 4 * length pre → words_at (bytes_of (pre ++ ws ++ post)) i (length ws) ≡ ws
part pre ws post i h e =
    let z : i ≡ length (bytes_of pre) + 0 = omega (arith, length-bytes pre) in
    rw (append_assoc, bytes-append, z, all-further, bytes-append) (here ws (bytes_of post) h)

-- ---- From a job to its bytes and back

module _ (f : JobFile) (fits : Fits f) where
  abbrev a : ℕ
  a = length f.start

  abbrev b : ℕ
  b = length f.spilled

  abbrev c : ℕ
  c = length f.target

  abbrev head : List ℕ
  head = a ∷ 36 ∷ b ∷ spilled_at a ∷ c ∷ target_at a b ∷ f.first ∷ f.S ∷ f.D ∷ []

  size : length (job_bytes f) ≡ end_at a b c
  unfolding job_bytes
  size =
      length-bytes (head ++ f.start ++ f.spilled ++ f.target)
      ∙ simp length-append (omega arith)

  starts-read : words_at (job_bytes f) 36 a ≡ f.start
  unfolding job_bytes
  starts-read = rw append_assoc (part head f.start (f.spilled ++ f.target) 36 fits.start refl)

  spills-read : words_at (job_bytes f) (spilled_at a) b ≡ f.spilled
  unfolding job_bytes
  spills-read = part (head ++ f.start) f.spilled f.target (spilled_at a) fits.spilled (simp length-append (omega arith))

  targets-read : words_at (job_bytes f) (target_at a b) c ≡ f.target
  unfolding job_bytes
  targets-read = rw append-nil at (part (head ++ f.start ++ f.spilled) f.target [] (target_at a b) fits.target (simp length-append (omega arith)))

  -- the head's nine words
  abbrev Said : ℕ → ℕ → Type 0
  Said i v = word_at (job_bytes f) i ≡ v

  words-said : Said 0 a × Said 4 36 × Said 8 b × Said 12 (spilled_at a) × Said 16 c × Said 20 (target_at a b) × Said 24 f.first × Said 28 f.S × Said 32 f.D
  unfolding job_bytes bytes_of
  words-said =
      let z = fits.size in (
        bytes-of-word a (omega arith),
        refl,
        bytes-of-word b (omega arith),
        bytes-of-word (spilled_at a) (omega arith),
        bytes-of-word c (omega arith),
        bytes-of-word (target_at a b) (omega arith),
        bytes-of-word f.first fits.slot,
        bytes-of-word f.S (omega (arith, fits.swaps)),
        bytes-of-word f.D (omega (arith, fits.dups)),
      )

  read_again : read_job (job_bytes f) ≡ f
  unfolding read_job
  read_again =
      let w = words-said in
      rw (w.0, w.2, w.4, w.6, w.7, w.8, starts-read, spills-read, targets-read)

  pub job-parsed : parsed (job_bytes f) ≡ some f
  unfolding parsed
  job-parsed =
      let w = words-said in
      let z = fits.size in
      let y = a-job (job_bytes f) a b c 36 (spilled_at a) (target_at a b) f.S f.D (sym w.0) (sym w.1) (sym w.2) (sym w.3) (sym w.4) (sym w.5)
      (sym w.7) (sym w.8) (omega (arith, size)) (omega (arith, size)) refl refl refl size fits.swaps fits.dups in
      rw (← y, read_again)

-- ---- From bytes to the job and back

module _ (bs : List ℕ) (small : AllBytes bs) (job : IsJob bs) where
  abbrev A : ℕ
  A = word_at bs 0

  abbrev B : ℕ
  B = word_at bs 8

  abbrev C : ℕ
  C = word_at bs 16

  head-is : words_at bs 0 9 ≡ A ∷ 36 ∷ B ∷ spilled_at A ∷ C ∷ target_at A B ∷ word_at bs 24 ∷ word_at bs 28 ∷ word_at bs 32 ∷ []
  unfolding words_at
  head-is = rw (job.start-at, job.spilled-at, job.target_at)

  file-is : job_bytes (read_job bs) ≡ bytes_of (words_at bs 0 9 ++ words_at bs 36 A ++ words_at bs (spilled_at A) B ++ words_at bs (target_at A B) C)
  unfolding job_bytes read_job
  file-is = rw (head-is, length-words bs 36 A, length-words bs (spilled_at A) B, length-words bs (target_at A B) C)

  written-again : job_bytes (read_job bs) ≡ bs
  written-again =
      let e = job.end-at in
      let last = again bs small (target_at A B) C (omega arith) in
      file-is
      ∙ simp (bytes-append, append_assoc)
      (ap (λ (r : List ℕ). bytes_of (words_at bs 0 9) ++ (bytes_of (words_at bs 36 A) ++ (bytes_of (words_at bs (spilled_at A) B) ++ r)))
      (sym (append-nil (bytes_of (words_at bs (target_at A B) C))) ∙ (rw (drop_of_length-le bs {i = end_at A B C} (omega arith)) at last))
      ∙ ap (λ (r : List ℕ). bytes_of (words_at bs 0 9) ++ (bytes_of (words_at bs 36 A) ++ r)) (again bs small (spilled_at A) B (omega arith))
      ∙ ap (λ (r : List ℕ). bytes_of (words_at bs 0 9) ++ r) (again bs small 36 A (omega arith))
      ∙ again bs small 0 9 (omega arith))

  within : Fits (read_job bs)
  unfolding read_job
  within = record {
    swaps = job.swaps;
    dups = job.dups;
    slot = word_fits bs small 24;
    start = words-fit bs small 36 A;
    spilled = words-fit bs small (spilled_at A) B;
    target = words-fit bs small (target_at A B) C;
    size = rw (length-words bs 36 A, length-words bs (spilled_at A) B, length-words bs (target_at A B) C) (omega (arith, job.small, job.end-at));
  }

parsed-some : (bs : List ℕ) (f : JobFile) (b : Bool) → b ≡ is_job bs → parsed bs ≡ some f → (b ≡ true) × (read_job bs ≡ f)
unfolding parsed
parsed-some bs f true e h = (refl, some-injective (read_job bs) f (rw (← e) at h))
parsed-some bs f false e h = absurd (none-ne-some f (rw (← e) at h))

pub parsed-exactly : (bs : List ℕ) (f : JobFile) → AllBytes bs → (parsed bs ≡ some f) ↔ ((bs ≡ job_bytes f) × Fits f)
parsed-exactly bs f small = (there, λ h. rw h.0 (job-parsed f h.1))
  where
    there : parsed bs ≡ some f → (bs ≡ job_bytes f) × Fits f
    there h =
        let p = parsed-some bs f (is_job bs) refl h in
        let j = is-a-job bs (is_job bs) refl p.0 in
        rw (← p.1) (sym (written-again bs small j), within bs small j)
