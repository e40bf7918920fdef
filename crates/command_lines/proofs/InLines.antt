-- The front of a text up to its first newline.
use Rattle.std.proofs.Common.{◌≡◌, ℕ, suc, ◌-◌, ◌≤◌, length, arith, Bool, true, false, List, [], ◌∷◌, ◌++◌, take, drop, Option, refl, ap, sym, subst, ◌∙◌, append_assoc}
use Rattle.std.specs.Prelude.{◌==◌, if◌then◌else◌}
use Rattle.std.specs.Io.KnownBytes.{Appends}
use Rattle.std.proofs.KnownBytes.{Appends-trans}
use Rattle.std.proofs.lemmas.List.{take-append-drop, take_all}
use Rattle.command_lines.specs.InLine.{in_line, line_length, shown_byte}

-- it is shown as it is
by-byte : (is_end : Bool) (byte : ℕ) (rest : List ℕ) → (byte == 10) ≡ is_end → in_line (take (line_length rest) rest) ≡ take (line_length rest) rest
    → in_line (take (if is_end then 0 else suc (line_length rest)) (byte ∷ rest)) ≡ take (if is_end then 0 else suc (line_length rest)) (byte ∷ rest)
by-byte true byte rest is same = refl
by-byte false byte rest is same = rw (is, same) refl

front-plain : (text : List ℕ) → in_line (take (line_length text) text) ≡ take (line_length text) text
front-plain [] = refl
front-plain (byte ∷ rest) = by-byte (byte == 10) byte rest refl (front-plain rest)

-- and a newline follows it
next-by : (is_end : Bool) (byte : ℕ) (rest : List ℕ) (next : ℕ) (more : List ℕ) → (byte == 10) ≡ is_end → (drop (line_length rest) rest ≡ next ∷ more → shown_byte next ≡ 63)
    → drop (if is_end then 0 else suc (line_length rest)) (byte ∷ rest) ≡ next ∷ more → shown_byte next ≡ 63
next-by true byte rest next more is later at = let same : byte ≡ next = cc in rw (← same, is) refl
next-by false byte rest next more is later at = later at

newline-next : (text : List ℕ) (next : ℕ) (more : List ℕ) → drop (line_length text) text ≡ next ∷ more → shown_byte next ≡ 63
newline-next [] next more at = absurd (cc)
newline-next (byte ∷ rest) next more at = next-by (byte == 10) byte rest next more refl (newline-next rest next more) at

-- what is shown of two texts
shown-append : (one other : List ℕ) → in_line (one ++ other) ≡ in_line one ++ in_line other
shown-append [] other = refl
shown-append (byte ∷ one) other = ap (λ (t : List ℕ). shown_byte byte ∷ t) (shown-append one other)

-- after a front
pub front-whole : (done left text front after : List ℕ) (n : ℕ) → done ++ left ≡ text → front ≡ take n left → after ≡ drop n left → (done ++ front) ++ after ≡ text
front-whole done left text front after n whole is_front is_after =
    let both : front ++ after ≡ left = rw (is_front, is_after) (take-append-drop n left) in
    append_assoc done front after ∙ ap (λ (t : List ℕ). done ++ t) both ∙ whole

pub front-said : (done left front : List ℕ) (n : ℕ) (w0 w1 w2 : Option (List ℕ)) → n ≡ line_length left → front ≡ take n left → Appends w0 w1 (in_line done) → Appends w1 w2 front
    → Appends w0 w2 (in_line (done ++ front))
front-said done left front n w0 w1 w2 is is_front said written =
    let plain : in_line front ≡ front = rw (is_front, is) (front-plain left) in
    subst (λ (t : List ℕ). Appends w0 w2 t) (ap (λ (t : List ℕ). in_line done ++ t) (sym plain) ∙ sym (shown-append done front)) (Appends-trans _ _ _ _ _ said written)

-- the byte that follows it, and the rest
pub line-cases : (after : List ℕ) → 1 ≤ length after → (next : ℕ) × (after ≡ next ∷ take (length after - 1) (drop 1 after))
line-cases [] some = absurd (omega (arith, some))
line-cases (byte ∷ rest) some = (byte, ap (λ (t : List ℕ). byte ∷ t) (sym (take_all (length (byte ∷ rest) - 1) rest (omega arith))))

-- after the newline
pub line-whole : (front after rest text : List ℕ) (next : ℕ) → front ++ after ≡ text → after ≡ next ∷ rest → (front ++ (next ∷ [])) ++ rest ≡ text
line-whole front after rest text next whole is = append_assoc front (next ∷ []) rest ∙ ap (λ (t : List ℕ). front ++ t) (sym is) ∙ whole

pub line-said : (front left after rest : List ℕ) (n next : ℕ) (w0 w1 w2 : Option (List ℕ)) → n ≡ line_length left → after ≡ drop n left → after ≡ next ∷ rest → Appends w0 w1 (in_line front) → Appends w1 w2 (63 ∷ [])
    → Appends w0 w2 (in_line (front ++ (next ∷ [])))
line-said front left after rest n next w0 w1 w2 is is_after at said written =
    let ends : shown_byte next ≡ 63 = newline-next left next rest (ap (λ (m : ℕ). drop m left) (sym is) ∙ sym is_after ∙ at) in
    subst (λ (t : List ℕ). Appends w0 w2 t) (ap (λ (b : ℕ). in_line front ++ (b ∷ [])) (sym ends) ∙ sym (shown-append front (next ∷ []))) (Appends-trans _ _ _ _ _ said written)
