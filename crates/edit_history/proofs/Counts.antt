-- How many packets have an id.
use Rattle.std.proofs.Common.{◌≡◌, ℕ, zero, suc, ◌+◌, ◌<◌, ◌≤◌, ◌⊎◌, inl, inr, Bool, true, false, List, [], ◌∷◌, ◌++◌, nat_eq, slice_get, slice_set, Option, Some, refl, sym, ap, subst, ◌∙◌, arith, eqb-true}
use Rattle.std.specs.Cmp.{nat_eq_equiv}
use Rattle.std.specs.List.{insert, remove}
use Rattle.std.specs.Option.{option_map_or}
use Rattle.chunked_list.specs.Moves.{moved}
use Rattle.packet_edits.specs.declared.entry.Entry.{Entry}
use Rattle.packet_edits.specs.Edits.{showing}
use Rattle.packet_edits.specs.Laws.{HaveOwnIds, IsNotAmong}
use Rattle.packet_edits.specs.Returns.{AreAlikeButShown}
use Rattle.packet_edits.proofs.Mapped.{moved_is, stands}
use Rattle.edit_history.specs.declared.change.Change.{Change}
use Rattle.edit_history.specs.declared.change.Change.TheVariants.{Exchange, Move, Put, Take}
use Rattle.edit_history.specs.Changes.{IsPossible, back, changed}
use Rattle.edit_history.proofs.Own.{owned_before}

abbrev pub one : Bool → ℕ
one true = 1
one false = 0

abbrev pub many : ℕ → List Entry → ℕ
many id [] = 0
many id (e ∷ es) = one (nat_eq e.id id) + many id es

pub many_both : (id : ℕ) (xs ys : List Entry) → many id (xs ++ ys) ≡ many id xs + many id ys
many_both id [] ys = omega arith
many_both id (x ∷ xs) ys = let rest = many_both id xs ys in omega (arith, rest)

pub many_inserted : (id at : ℕ) (e : Entry) (xs : List Entry) → many id (insert xs at e) ≡ many id xs + one (nat_eq e.id id)
many_inserted id zero e xs = omega arith
many_inserted id (suc at) e [] = omega arith
many_inserted id (suc at) e (x ∷ xs) = let rest = many_inserted id at e xs in omega (arith, rest)

pub many_removed : (id at : ℕ) (e : Entry) (xs : List Entry) → slice_get xs at ≡ Some e → many id (remove xs at) + one (nat_eq e.id id) ≡ many id xs
many_removed id at e [] here = cc
many_removed id zero e (x ∷ xs) here = let is : x ≡ e = cc in subst (λ (y : Entry). many id xs + one (nat_eq y.id id) ≡ one (nat_eq x.id id) + many id xs) is (omega arith)
many_removed id (suc at) e (x ∷ xs) here = let rest = many_removed id at e xs here in omega (arith, rest)

pub many_set : (id at : ℕ) (e old : Entry) (xs : List Entry) → slice_get xs at ≡ Some old → many id (slice_set xs at e) + one (nat_eq old.id id) ≡ many id xs + one (nat_eq e.id id)
many_set id at e old [] here = cc
many_set id zero e old (x ∷ xs) here =
    let is : x ≡ old = cc in
    subst (λ (y : Entry). one (nat_eq e.id id) + many id xs + one (nat_eq y.id id) ≡ one (nat_eq x.id id) + many id xs + one (nat_eq e.id id)) is (omega arith)
many_set id (suc at) e old (x ∷ xs) here = let rest = many_set id at e old xs here in omega (arith, rest)

-- different ids, by counts
pub record IsOwn (next : ℕ) (xs : List Entry) : Type 0 where
  pub most : (id : ℕ) → many id xs ≤ 1
  pub none : (id : ℕ) → next ≤ id → many id xs ≡ 0

away_many : (id : ℕ) (xs : List Entry) → IsNotAmong id xs → many id xs ≡ 0
away_many id [] away = refl
away_many id (x ∷ xs) away = by_test (nat_eq x.id id) refl (away_many id xs away.1)
  where
    by_test : (b : Bool) → nat_eq x.id id ≡ b → many id xs ≡ 0 → one b + many id xs ≡ 0
    by_test true is rest = absurd (away.0 (eqb-true x.id id is))
    by_test false is rest = omega (arith, rest)

many_away : (id : ℕ) (xs : List Entry) → many id xs ≡ 0 → IsNotAmong id xs
many_away id [] none = tt
many_away id (x ∷ xs) none =
    (λ same. let is : one (nat_eq x.id id) ≡ 1 = ap (λ (n : ℕ). one (nat_eq x.id n)) (sym same) ∙ ap one (nat_eq_equiv.refl x.id) in absurd (omega (arith, none, is)), many_away id xs (omega (arith, none)))

pub own_to : (next : ℕ) (xs : List Entry) → HaveOwnIds next xs → IsOwn next xs
own_to next [] own = record { most = λ id. omega arith; none = λ id up. refl }
own_to next (x ∷ xs) own =
    let rest = own_to next xs own.2 in
    let at_most : (id : ℕ) (b : Bool) → nat_eq x.id id ≡ b → one b + many id xs ≤ 1 = most_one rest in
    record { most = λ id. at_most id (nat_eq x.id id) refl; none = λ id up. none_one rest id up (nat_eq x.id id) refl }
  where
    most_one : IsOwn next xs → (id : ℕ) (b : Bool) → nat_eq x.id id ≡ b → one b + many id xs ≤ 1
    most_one rest id true is = let none = away_many id xs (subst (λ (n : ℕ). IsNotAmong n xs) (eqb-true x.id id is) own.1) in omega (arith, none)
    most_one rest id false is = let most = rest.most id in omega (arith, most)

    none_one : IsOwn next xs → (id : ℕ) → next ≤ id → (b : Bool) → nat_eq x.id id ≡ b → one b + many id xs ≡ 0
    none_one rest id up true is = let same : x.id ≡ id = eqb-true x.id id is in let below : x.id < next = own.0 in absurd (omega (arith, same, below, up))
    none_one rest id up false is = let none = rest.none id up in omega (arith, none)

pub own_from : (next : ℕ) (xs : List Entry) → IsOwn next xs → HaveOwnIds next xs
own_from next [] own = tt
own_from next (x ∷ xs) own =
    let here : one (nat_eq x.id x.id) ≡ 1 = ap one (nat_eq_equiv.refl x.id) in
    let most = own.most x.id in (
      below (own.none x.id) here,
      many_away x.id xs (omega (arith, here, most)),
      own_from next xs (record { most = λ id. let all = own.most id in omega (arith, all); none = λ id up. let all = own.none id up in omega (arith, all) }),
    )
  where
    below : (next ≤ x.id → one (nat_eq x.id x.id) + many x.id xs ≡ 0) → one (nat_eq x.id x.id) ≡ 1 → x.id < next
    below none here = by_order (less_or next x.id)
      where
        less_or : (m n : ℕ) → (m ≤ n) ⊎ (n < m)
        less_or zero n = inl (omega arith)
        less_or (suc m) zero = inr (omega arith)
        less_or (suc m) (suc n) = up_one (less_or m n)
          where
            up_one : (m ≤ n) ⊎ (n < m) → (suc m ≤ suc n) ⊎ (suc n < suc m)
            up_one (inl h) = inl (omega (arith, h))
            up_one (inr h) = inr (omega (arith, h))

        by_order : (next ≤ x.id) ⊎ (x.id < next) → x.id < next
        by_order (inl up) = let all = none up in absurd (omega (arith, all, here))
        by_order (inr less) = less

-- no id is there more often, and the next id is not lower
pub own_fewer : (next more : ℕ) (xs ys : List Entry) → next ≤ more → ((id : ℕ) → many id ys ≤ many id xs) → HaveOwnIds next xs → HaveOwnIds more ys
own_fewer next more xs ys up fewer own =
    let is = own_to next xs own in
    own_from more ys (record {
      most = λ id. let a = is.most id in let b = fewer id in omega (arith, a, b);
      none = λ id above. let a = is.none id (omega (arith, up, above)) in let b = fewer id in omega (arith, a, b);
    })

-- a change and the way back own the packets that are not in the list
same_id : (x y : Entry) → AreAlikeButShown x y → y.id ≡ x.id
same_id x y alike = by_side alike.1
  where
    by_side : (x ≡ showing alike.0 y) ⊎ (y ≡ showing alike.0 x) → y.id ≡ x.id
    by_side (inl is) = sym (ap (λ (e : Entry). e.id) is)
    by_side (inr is) = ap (λ (e : Entry). e.id) is

pub change_many : (change : Change) (id : ℕ) (es : List Entry) → IsPossible change es → many id (changed change es) + many id (owned_before (back change es) []) ≡ many id es + many id (owned_before change [])
change_many (Put at e) id es possible = let in_ = many_inserted id at e es in omega (arith, in_)
change_many (Take at) id es possible =
    let s = stands es at possible in
    let out = many_removed id at s.element es s.here in
    subst (λ (o : Option Entry). many id (remove es at) + many id (owned_before (option_map_or (λ entry. Put at entry) o (Take at)) []) ≡ many id es + 0) (sym s.here) (omega (arith, out))
change_many (Exchange at e true) id es possible =
    let s = stands es at possible in
    let both = many_set id at e s.element es s.here in
    subst (λ (o : Option Entry). many id (slice_set es at e) + many id (owned_before (option_map_or (λ old. Exchange at old true) o (Exchange at e true)) []) ≡ many id es + (one (nat_eq e.id id) + 0)) (sym s.here) (omega (arith, both))
change_many (Exchange at e false) id es possible =
    let both = many_set id at e possible.0 es possible.1 in
    let same : one (nat_eq e.id id) ≡ one (nat_eq possible.0.id id) = ap (λ (n : ℕ). one (nat_eq n id)) (same_id possible.0 e possible.2) in
    subst (λ (o : Option Entry). many id (slice_set es at e) + many id (owned_before (option_map_or (λ old. Exchange at old false) o (Exchange at e false)) []) ≡ many id es + 0) (sym possible.1) (omega (arith, both, same))
change_many (Move from to) id es possible =
    let s = stands es from possible.0 in
    let out = many_removed id from s.element es s.here in
    let in_ = many_inserted id to s.element (remove es from) in
    let is : many id (moved from to es) ≡ many id (insert (remove es from) to s.element) = ap (many id) (moved_is from to es s.element s.here) in
    omega (arith, out, in_, is)
