-- Fronts of texts.
use Rattle.std.proofs.Common.{◌≡◌, ℕ, zero, suc, ◌+◌, ◌-◌, ◌<◌, ◌≤◌, List, [], ◌++◌, Option, refl, ap, sym, subst, ◌∙◌, append_assoc, append-nil, arith}
use Rattle.std.proofs.KnownBytes.{Appends-nil, Appends-trans}
use Rattle.std.specs.List.{flat_map, range_with_len}
use Rattle.std.specs.Io.KnownBytes.{Appends}
use Rattle.macroblock_lists.specs.Fronts.{GainsFront, IsListEnd}
use Rattle.macroblock_lists.specs.declared.listing.ListFault.{ListFault}
use Rattle.macroblock_lists.specs.declared.listing.ListFault.TheVariants.{NoMemory, Write}

-- nothing was written
pub front-none : (text : List ℕ) (w : Option (List ℕ)) → GainsFront text w w
front-none text w = record { said = []; left = text; whole = refl; gained = Appends-nil w }

-- a text, and the front of another
pub front-after : (before text : List ℕ) (w0 w1 w2 : Option (List ℕ)) → Appends w0 w1 before → GainsFront text w1 w2 → GainsFront (before ++ text) w0 w2
front-after before text w0 w1 w2 first front = record {
  said = before ++ front.said;
  left = front.left;
  whole = append_assoc before front.said front.left ∙ ap (λ (t : List ℕ). before ++ t) front.whole;
  gained = Appends-trans _ _ _ _ _ first front.gained;
}

-- the front of a text is that of a longer one
pub front-longer : (text more : List ℕ) (w0 w1 : Option (List ℕ)) → GainsFront text w0 w1 → GainsFront (text ++ more) w0 w1
front-longer text more w0 w1 front = record {
  said = front.said;
  left = front.left ++ more;
  whole = sym (append_assoc front.said front.left more) ∙ ap (λ (t : List ℕ). t ++ more) front.whole;
  gained = front.gained;
}

-- a whole text is a front
pub front-whole : (text : List ℕ) (w0 w1 : Option (List ℕ)) → Appends w0 w1 text → GainsFront text w0 w1
front-whole text w0 w1 all = record { said = text; left = []; whole = append-nil text; gained = all }

-- after an error
pub end-after : (before text : List ℕ) (w0 w1 w2 : Option (List ℕ)) (fault : ListFault) → Appends w0 w1 before → IsListEnd text w1 w2 fault → IsListEnd (before ++ text) w0 w2 fault
end-after before text w0 w1 w2 NoMemory first is = front-after before text w0 w1 w2 first is
end-after before text w0 w1 w2 Write first is = tt

pub end-longer : (text more : List ℕ) (w0 w1 : Option (List ℕ)) (fault : ListFault) → IsListEnd text w0 w1 fault → IsListEnd (text ++ more) w0 w1 fault
end-longer text more w0 w1 NoMemory is = front-longer text more w0 w1 is
end-longer text more w0 w1 Write is = tt

-- the texts of numbers in a row, in two parts
pub texts-split : (f : ℕ → List ℕ) (a n m : ℕ) → flat_map f (range_with_len a (n + m)) ≡ flat_map f (range_with_len a n) ++ flat_map f (range_with_len (a + n) m)
texts-split f a zero m =
    let none : zero + m ≡ m = omega arith in
    let same : a + 0 ≡ a = omega arith in
    ap (λ (k : ℕ). flat_map f (range_with_len a k)) none ∙ ap (λ (k : ℕ). flat_map f (range_with_len k m)) (sym same)
texts-split f a (suc n) m =
    let one : suc n + m ≡ suc (n + m) = omega arith in
    let next : a + 1 + n ≡ a + suc n = omega arith in
    ap (λ (k : ℕ). flat_map f (range_with_len a k)) one
    ∙ ap (λ (t : List ℕ). f a ++ t) (texts-split f (a + 1) n m)
    ∙ sym (append_assoc (f a) (flat_map f (range_with_len (a + 1) n)) (flat_map f (range_with_len (a + 1 + n) m)))
    ∙ ap (λ (k : ℕ). (f a ++ flat_map f (range_with_len (a + 1) n)) ++ flat_map f (range_with_len k m)) next

-- the text of the one at `n`, and those before and after it
pub texts-around : (f : ℕ → List ℕ) (a m n : ℕ) → a ≤ n → n < a + m
    → flat_map f (range_with_len a m) ≡ flat_map f (range_with_len a (n - a)) ++ (f n ++ flat_map f (range_with_len (n + 1) (m - (n - a) - 1)))
texts-around f a m n from below =
    let parts : m ≡ n - a + suc (m - (n - a) - 1) = omega (arith, from, below) in
    let here : a + (n - a) ≡ n = omega (arith, from) in
    ap (λ (k : ℕ). flat_map f (range_with_len a k)) parts
    ∙ texts-split f a (n - a) (suc (m - (n - a) - 1))
    ∙ ap (λ (k : ℕ). flat_map f (range_with_len a (n - a)) ++ flat_map f (range_with_len k (suc (m - (n - a) - 1)))) here

-- in the text of packets in a row: an error in the one at `n`, after those before it
pub end-within : (f : ℕ → List ℕ) (a m n : ℕ) (w0 w1 w2 : Option (List ℕ)) (fault : ListFault) → a ≤ n → n < a + m
    → Appends w0 w1 (flat_map f (range_with_len a (n - a))) → IsListEnd (f n) w1 w2 fault → IsListEnd (flat_map f (range_with_len a m)) w0 w2 fault
end-within f a m n w0 w1 w2 fault from below first is =
    subst (λ (t : List ℕ). IsListEnd t w0 w2 fault) (sym (texts-around f a m n from below))
    (end-after (flat_map f (range_with_len a (n - a))) _ w0 w1 w2 fault first (end-longer (f n) _ w1 w2 fault is))

-- and an error after it
pub end-following : (f : ℕ → List ℕ) (a m n : ℕ) (w0 w1 w2 : Option (List ℕ)) (fault : ListFault) → a ≤ n → n < a + m
    → Appends w0 w1 (flat_map f (range_with_len a (n - a))) → Appends w1 w2 (f n) → IsListEnd (flat_map f (range_with_len a m)) w0 w2 fault
end-following f a m n w0 w1 w2 NoMemory from below first own = end-within f a m n w0 w1 w2 NoMemory from below first (front-whole (f n) w1 w2 own)
end-following f a m n w0 w1 w2 Write from below first own = tt
