-- Files that lie one after the other, one more at a time.
use Rattle.std.proofs.Common.{◌≡◌, ℕ, zero, suc, ◌+◌, ◌<◌, Bool, true, false, ◌&&◌, nat_le, List, [], ◌∷◌, ◌++◌, length, get_or, take, drop, slice_range, refl, sym, ap, ◌∙◌, arith}
use Rattle.std.proofs.lemmas.List.{take-append-drop, take_more}
use Rattle.std.specs.Borrow.{Bor}
use Rattle.frame_session.specs.Answers.{texts_of}
use Rattle.wokureti_c.specs.Openings.{are_ends_from, files_from}

-- where the next file begins after these
abbrev pub last_end : ℕ → List ℕ → ℕ
last_end start [] = start
last_end start (end ∷ ends) = last_end end ends

pub last_end_append : (start : ℕ) (ends : List ℕ) (end : ℕ) → last_end start (ends ++ end ∷ []) ≡ end
last_end_append start [] end = refl
last_end_append start (first ∷ ends) end = last_end_append first ends end

pub files_append : (start : ℕ) (bytes ends : List ℕ) (end : ℕ) → files_from start bytes (ends ++ end ∷ []) ≡ files_from start bytes ends ++ slice_range bytes (last_end start ends) end ∷ []
files_append start bytes [] end = refl
files_append start bytes (first ∷ ends) end = ap (λ (files : List (List ℕ)). slice_range bytes start first ∷ files) (files_append first bytes ends end)

and_last : (a b c d : Bool) → (a && (b && (c && d))) ≡ ((a && (b && c)) && d)
and_last true true c d = refl
and_last true false c d = refl
and_last false b c d = refl

pub ends_append : (start : ℕ) (bytes ends more : List ℕ) → are_ends_from start bytes (ends ++ more) ≡ (are_ends_from start bytes ends && are_ends_from (last_end start ends) bytes more)
ends_append start bytes [] more = refl
ends_append start bytes (first ∷ ends) more =
    ap (λ (b : Bool). nat_le start first && (nat_le first (length bytes) && b)) (ends_append first bytes ends more)
    ∙ and_last (nat_le start first) (nat_le first (length bytes)) (are_ends_from first bytes ends) (are_ends_from (last_end first ends) bytes more)

-- one end more
pub files_more : (bytes ends : List ℕ) (i start : ℕ) (before after : List (List ℕ)) → i < length ends → before ≡ files_from 0 bytes (take i ends) → start ≡ last_end 0 (take i ends)
    → after ≡ before ++ slice_range bytes start (get_or ends i 0) ∷ [] → after ≡ files_from 0 bytes (take (i + 1) ends)
files_more bytes ends i start before after within was begins pushed =
    pushed
    ∙ ap (λ (files : List (List ℕ)). files ++ slice_range bytes start (get_or ends i 0) ∷ []) was
    ∙ ap (λ (s : ℕ). files_from 0 bytes (take i ends) ++ slice_range bytes s (get_or ends i 0) ∷ []) begins
    ∙ sym (files_append 0 bytes (take i ends) (get_or ends i 0))
    ∙ ap (files_from 0 bytes) (sym (take_more ends i 0 within))

pub last_more : (ends : List ℕ) (i : ℕ) → i < length ends → get_or ends i 0 ≡ last_end 0 (take (i + 1) ends)
last_more ends i within = sym (ap (last_end 0) (take_more ends i 0 within) ∙ last_end_append 0 (take i ends) (get_or ends i 0))

and_false : (b : Bool) → (b && false) ≡ false
and_false true = refl
and_false false = refl

-- an end that is before the one before it, or past the end of the bytes
pub ends_refused : (bytes ends : List ℕ) (i start : ℕ) → i < length ends → start ≡ last_end 0 (take i ends) → (nat_le start (get_or ends i 0) && (nat_le (get_or ends i 0) (length bytes) && true)) ≡ false → are_ends_from 0 bytes ends ≡ false
ends_refused bytes ends i start within begins wrong =
    let end : ℕ = get_or ends i 0 in
    let one : are_ends_from (last_end 0 (take i ends)) bytes (end ∷ []) ≡ false = ap (λ (s : ℕ). are_ends_from s bytes (end ∷ [])) (sym begins) ∙ wrong in
    let front : are_ends_from 0 bytes (take (i + 1) ends) ≡ false =
    ap (are_ends_from 0 bytes) (take_more ends i 0 within) ∙ ends_append 0 bytes (take i ends) (end ∷ []) ∙ ap (λ (b : Bool). are_ends_from 0 bytes (take i ends) && b) one ∙ and_false (are_ends_from 0 bytes (take i ends)) in
    ap (are_ends_from 0 bytes) (sym (take-append-drop (i + 1) ends))
    ∙ ends_append 0 bytes (take (i + 1) ends) (drop (i + 1) ends)
    ∙ ap (λ (b : Bool). b && are_ends_from (last_end 0 (take (i + 1) ends)) bytes (drop (i + 1) ends)) front

pub texts_more : (files : List (Bor (List ℕ))) (file : Bor (List ℕ)) → texts_of (files ++ file ∷ []) ≡ texts_of files ++ file.now ∷ []
texts_more [] file = refl
texts_more (first ∷ files) file = ap (λ (texts : List (List ℕ)). first.now ∷ texts) (texts_more files file)
