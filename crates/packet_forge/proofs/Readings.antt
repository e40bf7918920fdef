-- Pairs that are read back in sequence, and values that are made from them.
use Rattle.std.proofs.Common.{◌≡◌, ℕ, zero, suc, ◌≤◌, Bool, false, List, [], ◌∷◌, ◌++◌, map, length, take, drop, get_or, set, refl, ap, sym, subst, ◌∙◌, add-one, arith}
use Rattle.std.proofs.lemmas.List.{take_more, map-append, set-get_or}
use Rattle.std.specs.List.{All}
use Rattle.bool_coder.specs.Reader.{Reader, started, read}
use Rattle.bool_coder.specs.Reading.{Reading}
use Rattle.bool_coder.specs.Uncut.{bits_read}
use Rattle.bool_coder.specs.CodeText.{code_text}
use Rattle.bool_coder.proofs.RoundTrip.{code_text-read}
use Rattle.frame_header.specs.Updates.{first_updated}
use Rattle.packet_forge.specs.Pairs.{zeros_at}

-- the first pair is read here, and this holds of the reader after it
pub record ReadsPair (pair : Bool × ℕ) (r : Reader) (rest : Reader → Type 0) : Type 0 where
  pub mid : Reader
  pub bit : read pair.1 r ≡ (pair.0, mid)
  pub following : rest mid

-- from r these pairs are read, and s is the reader after them
abbrev pub Reads : List (Bool × ℕ) → Reader → Reader → Type 0
Reads [] r s = r ≡ s
Reads (pair ∷ pairs) r s = ReadsPair pair r (λ m. Reads pairs m s)

-- there is a reader after them
pub record ReadsAll (pairs : List (Bool × ℕ)) (r : Reader) : Type 0 where
  pub end : Reader
  pub all : Reads pairs r end

-- the bits that are read, one by one
told : (prob : ℕ) (r : Reader) (bit : Bool) → (read prob r).0 ≡ bit → read prob r ≡ (bit, (read prob r).1)
told prob r bit is = rw (← is) refl

pub reads_bits : (pairs : List (Bool × ℕ)) (r : Reader) → bits_read read (map (λ p. p.1) pairs) r ≡ map (λ p. p.0) pairs → ReadsAll pairs r
reads_bits [] r same = record { end = r; all = refl }
reads_bits (pair ∷ pairs) r same =
    let first : (read pair.1 r).0 ≡ pair.0 = ap (λ (xs : List Bool). get_or xs 0 false) same in
    let others : bits_read read (map (λ p. p.1) pairs) (read pair.1 r).1 ≡ map (λ p. p.0) pairs = ap (λ (xs : List Bool). drop 1 xs) same in
    let following = reads_bits pairs (read pair.1 r).1 others in
    record { end = following.end; all = record { mid = (read pair.1 r).1; bit = told pair.1 r pair.0 first; following = following.all } }

-- the pairs of a code text are read from its start
pub reads_text : (pairs : List (Bool × ℕ)) → All (λ p. p.1 ≤ 255) pairs → ReadsAll pairs (started (code_text pairs))
reads_text pairs probable = reads_bits pairs (started (code_text pairs)) (code_text-read pairs probable)

-- the first pairs, and the pairs after them
pub record ReadsBoth (xs ys : List (Bool × ℕ)) (r s : Reader) : Type 0 where
  pub mid : Reader
  pub front : Reads xs r mid
  pub following : Reads ys mid s

pub reads_both : (xs ys : List (Bool × ℕ)) (r s : Reader) → Reads (xs ++ ys) r s → ReadsBoth xs ys r s
reads_both [] ys r s reads = record { mid = r; front = refl; following = reads }
reads_both (x ∷ xs) ys r s reads =
    let rest = reads_both xs ys reads.mid s reads.following in
    record { mid = rest.mid; front = record { mid = reads.mid; bit = reads.bit; following = rest.front }; following = rest.following }

-- ---- updates that change nothing

-- a way of reading that leaves a value as it was at a zero
abbrev pub KeepsAtZero : (ℕ → ℕ → Reading ℕ) → Type 0
KeepsAtZero way = (update before : ℕ) (r s : Reader) → read update r ≡ (false, s) → way update before r ≡ (before, s)

first_updated-zero : (way : ℕ → ℕ → Reading ℕ) (updates before : List ℕ) (r : Reader) → first_updated way 0 updates before r ≡ (before, r)
unfolding first_updated
first_updated-zero way updates before r = refl

first_updated-suc : (way : ℕ → ℕ → Reading ℕ) (place : ℕ) (updates before done : List ℕ) (r s t : Reader) (x : ℕ) → first_updated way place updates before r ≡ (done, s) → way (get_or updates place 0) (get_or done place 0) s ≡ (x, t) → first_updated way (suc place) updates before r ≡ (set done place x, t)
unfolding first_updated
first_updated-suc way place updates before done r s t x first here = rw (first, here) refl

pub updates_none : (way : ℕ → ℕ → Reading ℕ) (n : ℕ) (updates before : List ℕ) (r s : Reader) → KeepsAtZero way → n ≤ length updates → Reads (zeros_at (take n updates)) r s → first_updated way n updates before r ≡ (before, s)
updates_none way zero updates before r s keeps fits reads = first_updated-zero way updates before r ∙ ap (λ (t : Reader). (before, t)) reads
updates_none way (suc n) updates before r s keeps fits reads =
    let next : zeros_at (take (suc n) updates) ≡ zeros_at (take n updates) ++ (false, get_or updates n 0) ∷ [] = rw (← add-one) (ap zeros_at (take_more updates n 0 (omega arith)) ∙ map-append (λ p. (false, p)) (take n updates) (get_or updates n 0 ∷ [])) in
    let both = reads_both (zeros_at (take n updates)) ((false, get_or updates n 0) ∷ []) r s (subst (λ ps. Reads ps r s) next reads) in
    let before_is = updates_none way n updates before r both.mid keeps (omega arith) both.front in
    let here = keeps (get_or updates n 0) (get_or before n 0) both.mid both.following.mid both.following.bit in
    first_updated-suc way n updates before before r both.mid both.following.mid (get_or before n 0) before_is here
    ∙ ap (λ (xs : List ℕ). (xs, both.following.mid)) (set-get_or before n 0) ∙ ap (λ (t : Reader). (before, t)) both.following.following

-- pairs that are read after others are read with them
pub reads_joined : (xs ys : List (Bool × ℕ)) (r m s : Reader) → Reads xs r m → Reads ys m s → Reads (xs ++ ys) r s
reads_joined [] ys r m s front following = subst (λ (t : Reader). Reads ys t s) (sym front) following
reads_joined (x ∷ xs) ys r m s front following = record { mid = front.mid; bit = front.bit; following = reads_joined xs ys front.mid m s front.following following }
