-- Steps made of lists with places lead where the steps lead.
use Rattle.std.proofs.Common.{◌≡◌, ℕ, zero, suc, ◌+◌, ◌<◌, ◌⊎◌, inl, inr, Bool, true, false, cond, List, [], ◌∷◌, ◌++◌, nat_eq, length, slice_get, slice_set, refl, sym, ap, subst, ◌∙◌, arith, eqb-true, length-append, append_assoc, append-nil}
use Rattle.std.specs.Cmp.{nat_eq_equiv}
use Rattle.std.specs.List.{remove}
use Rattle.std.proofs.lemmas.List.{ext_get_or, get_or-set_other, get_or-set_same, length-set}
use Rattle.packet_edits.specs.declared.entry.Entry.{Entry}
use Rattle.packet_edits.specs.Edits.{Listing, showing}
use Rattle.packet_edits.specs.Laws.{HaveOwnIds, IsNotAmong}
use Rattle.packet_edits.specs.Marks.{StoreValue}
use Rattle.packet_edits.specs.Returns.{AreAlikeButShown, MayReturn, vacant}
use Rattle.edit_history.specs.declared.change.Change.{Change}
use Rattle.edit_history.specs.declared.change.Change.TheVariants.{Exchange, Move, Put, Take}
use Rattle.edit_history.specs.declared.step.Step.{Step}
use Rattle.edit_history.specs.declared.step.Step.TheVariants.{Packets, Script}
use Rattle.edit_history.specs.Changes.{IsPossible, IsReady, back, last_of, store_changed, store_made}
use Rattle.edit_history.specs.Places.{ArePlaceable, HaveOwnHeld, IsPlaceable, held, placed, with_place, with_places}
use Rattle.edit_history.specs.Steps.{ArePossible, AreReady, Content, HasSource, HaveSources, after_step, after_steps, all_made, last_first, made, store_at, turned_onto, ways_back, ways_made}
use Rattle.edit_history.specs.Laws.{StepsNeedNoMemory}
use Rattle.edit_history.proofs.Changes.{exchanged_there}
use Rattle.edit_history.proofs.Lists.{get_front, get_last, remove_front}
use Rattle.edit_history.proofs.Over.{IsOver, back_over, over_change, over_none, over_placed, waits_before}
use Rattle.edit_history.proofs.Own.{away_both, middle_left, middle_may, own_changed, owned_before}

-- the packets of one source after those of one were replaced
pub here : (stores : List StoreValue) (source : ℕ) (store : StoreValue) → source < length stores → store_at (slice_set stores source store) source ≡ store
here stores source store within = get_or-set_same stores source store _ within

pub there : (stores : List StoreValue) (source other : ℕ) (store : StoreValue) → (other ≡ source → ⊥) → store_at (slice_set stores source store) other ≡ store_at stores other
there stores source other store differs = get_or-set_other stores source other store _ differs

same_case : (p m : ℕ) (b : Bool) → nat_eq p m ≡ b → (p ≡ m) ⊎ (p ≡ m → ⊥)
same_case p m true e = inl (eqb-true p m e)
same_case p m false e = inr (λ same. let is : nat_eq p m ≡ true = ap (nat_eq p) (sym same) ∙ nat_eq_equiv.refl p in cc)

pub same_source : (p m : ℕ) → (p ≡ m) ⊎ (p ≡ m → ⊥)
same_source p m = same_case p m (nat_eq p m) refl

pub is_same : (p : ℕ) → nat_eq p p ≡ true
is_same p = nat_eq_equiv.refl p

pub differs : (p m : ℕ) (b : Bool) → nat_eq p m ≡ b → (p ≡ m → ⊥) → b ≡ false
differs p m true e other = absurd (other (eqb-true p m e))
differs p m false e other = refl

-- a source's part of a list of packets
abbrev pub of_source : Bool → List Entry → List Entry → List Entry
of_source true here rest = here
of_source false here rest = rest

pub any_part : (b : Bool) (rest : List Entry) → of_source b rest rest ≡ rest
any_part true rest = refl
any_part false rest = refl

-- the places that steps have in a source, that of the first one last
abbrev pub waits : ℕ → List Step → List Entry
waits source [] = []
waits source (Packets other change current ∷ steps) = of_source (nat_eq other source) (waits_before change (waits source steps)) (waits source steps)
waits source (Script script current ∷ steps) = waits source steps

-- the packets that they own
abbrev pub owned : ℕ → List Step → List Entry
owned source [] = []
owned source (Packets other change current ∷ steps) = of_source (nat_eq other source) (owned_before change (owned source steps)) (owned source steps)
owned source (Script script current ∷ steps) = owned source steps

by_cond : (b : Bool) (here rest : List Entry) → cond b here rest ≡ of_source b here rest
by_cond true here rest = refl
by_cond false here rest = refl

pub held_is : (source : ℕ) (steps : List Step) → held source steps ≡ owned source steps
held_is source [] = refl
held_is source (Packets other (Put at e) current ∷ steps) = ap (λ (rest : List Entry). cond (nat_eq other source) (e ∷ rest) rest) (held_is source steps) ∙ by_cond (nat_eq other source) (e ∷ owned source steps) (owned source steps)
held_is source (Packets other (Exchange at e true) current ∷ steps) = ap (λ (rest : List Entry). cond (nat_eq other source) (e ∷ rest) rest) (held_is source steps) ∙ by_cond (nat_eq other source) (e ∷ owned source steps) (owned source steps)
held_is source (Packets other (Exchange at e false) current ∷ steps) = held_is source steps ∙ sym (any_part (nat_eq other source) (owned source steps))
held_is source (Packets other (Take at) current ∷ steps) = held_is source steps ∙ sym (any_part (nat_eq other source) (owned source steps))
held_is source (Packets other (Move from to) current ∷ steps) = held_is source steps ∙ sym (any_part (nat_eq other source) (owned source steps))
held_is source (Script script current ∷ steps) = held_is source steps

-- the ids of places are those of packets that steps own
away_part : (id : ℕ) (ws os : List Entry) (b : Bool) (change : Change) → (IsNotAmong id os → IsNotAmong id ws) → IsNotAmong id (of_source b (owned_before change os) os) → IsNotAmong id (of_source b (waits_before change ws) ws)
away_part id ws os false change rest away = rest away
away_part id ws os true (Put at e) rest away = away_both id ws (vacant e ∷ []) (rest away.1) (away.0, tt)
away_part id ws os true (Take at) rest away = rest away
away_part id ws os true (Exchange at e true) rest away = rest away.1
away_part id ws os true (Exchange at e false) rest away = rest away
away_part id ws os true (Move from to) rest away = rest away

waits_away : (id source : ℕ) (steps : List Step) → IsNotAmong id (owned source steps) → IsNotAmong id (waits source steps)
waits_away id source [] away = tt
waits_away id source (Packets other change current ∷ steps) away = away_part id (waits source steps) (owned source steps) (nat_eq other source) change (waits_away id source steps) away
waits_away id source (Script script current ∷ steps) away = waits_away id source steps away

-- each source has its packets and its places
pub record AreOver (steps : List Step) (live phys : List StoreValue) : Type 0 where
  pub many : length phys ≡ length live
  pub each : (source : ℕ) → source < length live → IsOver (waits source steps) (store_at live source) (store_at phys source)

-- in each source the ids differ
pub record AreOwn (steps : List Step) (live : List StoreValue) : Type 0 where
  pub each : (source : ℕ) → source < length live → HaveOwnIds (store_at live source).list.next_id ((store_at live source).list.entries ++ owned source steps)

pub own_of_held : (steps : List Step) (stores : List StoreValue) → HaveOwnHeld steps stores → AreOwn steps stores
own_of_held steps stores own = record {
  each = λ source within. subst (λ (es : List Entry). HaveOwnIds (store_at stores source).list.next_id ((store_at stores source).list.entries ++ es)) (held_is source steps) (own source within);
}

-- the ids of one source differ
abbrev Owns : List Step → ℕ → StoreValue → Type 0
Owns steps q s = HaveOwnIds s.list.next_id (s.list.entries ++ owned q steps)

module _ (source : ℕ) (change : Change) (current : ℕ) (steps : List Step) (live phys : List StoreValue) (within : source < length live) (possible : IsPossible change (store_at live source).list.entries) where
  abbrev live' : List StoreValue
  live' = slice_set live source (store_changed change (store_at live source))

  abbrev phys' : List StoreValue
  phys' = slice_set phys source (store_made change (store_at phys source))

  own_part : (P : List Entry → Type 0) → P (owned source (Packets source change current ∷ steps)) → P (owned_before change (owned source steps))
  own_part P p = subst (λ (b : Bool). P (of_source b (owned_before change (owned source steps)) (owned source steps))) (is_same source) p

  over_here : AreOver (Packets source change current ∷ steps) live phys → IsOver (waits_before change (waits source steps)) (store_at live source) (store_at phys source)
  over_here over = subst (λ (b : Bool). IsOver (of_source b (waits_before change (waits source steps)) (waits source steps)) (store_at live source) (store_at phys source)) (is_same source) (over.each source within)

  over_there : AreOver (Packets source change current ∷ steps) live phys → (other : ℕ) → other < length live → (other ≡ source → ⊥) → IsOver (waits other steps) (store_at live other) (store_at phys other)
  over_there over other inside apart =
      let is : nat_eq source other ≡ false = differs source other (nat_eq source other) refl (λ same. apart (sym same)) in
      subst (λ (b : Bool). IsOver (of_source b (waits_before change (waits other steps)) (waits other steps)) (store_at live other) (store_at phys other)) is (over.each other inside)

  pub over_packets : AreOver (Packets source change current ∷ steps) live phys → AreOver steps live' phys'
  over_packets over =
      let many : length live' ≡ length live = length-set live source _ in record {
        many = length-set phys source _ ∙ over.many ∙ sym many;
        each = λ other inside. by_case other (omega (arith, inside, many)) (same_source other source);
      }
    where
      by_case : (other : ℕ) → other < length live → (other ≡ source) ⊎ (other ≡ source → ⊥) → IsOver (waits other steps) (store_at live' other) (store_at phys' other)
      by_case other inside (inl same) =
          let out : source < length phys = omega (arith, within, over.many) in
          let done = over_change change (waits source steps) (store_at live source) (store_at phys source) possible (over_here over) in
          subst (λ (q : ℕ). IsOver (waits q steps) (store_at live' q) (store_at phys' q)) (sym same)
          (subst (λ (s : StoreValue). IsOver (waits source steps) s (store_at phys' source)) (sym (here live source _ within))
          (subst (λ (s : StoreValue). IsOver (waits source steps) (store_changed change (store_at live source)) s) (sym (here phys source _ out)) done))
      by_case other inside (inr apart) =
          subst (λ (s : StoreValue). IsOver (waits other steps) s (store_at phys' other)) (sym (there live source other _ apart))
          (subst (λ (s : StoreValue). IsOver (waits other steps) (store_at live other) s) (sym (there phys source other _ apart)) (over_there over other inside apart))

  pub own_packets : AreOwn (Packets source change current ∷ steps) live → AreOwn steps live'
  own_packets own = record { each = λ other inside. by_case other (let many : length live' ≡ length live = length-set live source _ in omega (arith, inside, many)) (same_source other source) }
    where
      by_case : (other : ℕ) → other < length live → (other ≡ source) ⊎ (other ≡ source → ⊥) → Owns steps other (store_at live' other)
      by_case other inside (inl same) =
          let s : StoreValue = store_at live source in
          let before : HaveOwnIds s.list.next_id (s.list.entries ++ owned_before change (owned source steps)) = own_part (λ es. HaveOwnIds s.list.next_id (s.list.entries ++ es)) (own.each source within) in
          subst (λ (q : ℕ). Owns steps q (store_at live' q)) (sym same)
          (subst (λ (t : StoreValue). Owns steps source t) (sym (here live source _ within)) (own_changed change s.list.next_id s.list.entries (owned source steps) possible before))
      by_case other inside (inr apart) =
          let is : nat_eq source other ≡ false = differs source other (nat_eq source other) refl (λ same. apart (sym same)) in
          let s : StoreValue = store_at live other in
          subst (λ (t : StoreValue). Owns steps other t) (sym (there live source other _ apart))
          (subst (λ (b : Bool). HaveOwnIds s.list.next_id (s.list.entries ++ of_source b (owned_before change (owned other steps)) (owned other steps))) is (own.each other inside))

  -- and the change may be made
  ready_of : (s p : StoreValue) → IsPossible change s.list.entries → IsOver (waits_before change (waits source steps)) s p → HaveOwnIds s.list.next_id (s.list.entries ++ owned_before change (owned source steps)) → IsReady change p
  ready_of s p fits over own = by_change change fits over own
    where
      alike_id : (one other : Entry) → AreAlikeButShown one other → other.id ≡ one.id
      alike_id one other alike = by_side alike.1
        where
          by_side : (one ≡ showing alike.0 other) ⊎ (other ≡ showing alike.0 one) → other.id ≡ one.id
          by_side (inl is) = sym (ap (λ (x : Entry). x.id) is)
          by_side (inr is) = ap (λ (x : Entry). x.id) is

      away_of : (id : ℕ) (xs : List Entry) (i : ℕ) → IsNotAmong id xs → IsNotAmong id (remove xs i)
      away_of id [] zero away = tt
      away_of id [] (suc i) away = tt
      away_of id (x ∷ xs) zero away = away.1
      away_of id (x ∷ xs) (suc i) away = (away.0, away_of id xs i away.1)

      left_away : (id : ℕ) (xs ys : List Entry) → IsNotAmong id (xs ++ ys) → IsNotAmong id xs × IsNotAmong id ys
      left_away id [] ys away = (tt, away)
      left_away id (x ∷ xs) ys away = let rest = left_away id xs ys away.1 in ((away.0, rest.0), rest.1)

      longer : (at : ℕ) (s p : StoreValue) (ws : List Entry) → p.list ≡ record s.list { entries = s.list.entries ++ ws } → at < length s.list.entries → at < length p.list.entries
      longer at s p ws list inside =
          let count : length p.list.entries ≡ length s.list.entries + length ws = ap (λ (l : Listing). length l.entries) list ∙ length-append s.list.entries ws in
          omega (arith, count, inside)

      by_change : (c : Change) → IsPossible c s.list.entries → IsOver (waits_before c (waits source steps)) s p → HaveOwnIds s.list.next_id (s.list.entries ++ owned_before c (owned source steps)) → IsReady c p
      by_change (Put at e) fits over own =
          let es : List Entry = s.list.entries in
          let ws : List Entry = waits source steps in
          let whole : p.list.entries ≡ (es ++ ws) ++ vacant e ∷ [] = ap (λ (l : Listing). l.entries) over.list ∙ sym (append_assoc es ws (vacant e ∷ [])) in
          let count : length p.list.entries ≡ length (es ++ ws) + 1 = ap length whole ∙ length-append (es ++ ws) (vacant e ∷ []) in
          let both : length (es ++ ws) ≡ length es + length ws = length-append es ws in
          let last : last_of p ≡ length (es ++ ws) = omega (arith, count) in (
            omega (arith, count, both, fits),
            ap (λ (xs : List Entry). slice_get xs (last_of p)) whole ∙ ap (slice_get ((es ++ ws) ++ vacant e ∷ [])) last ∙ get_last (es ++ ws) (vacant e),
          )
      by_change (Take at) fits over own = longer at s p (waits source steps) over.list fits
      by_change (Exchange at e true) fits over own =
          let es : List Entry = s.list.entries in
          let ws : List Entry = waits source steps in
          let may = middle_may s.list.next_id e es (owned source steps) own in
          let parts = left_away e.id es (owned source steps) may.away in
          let there_ : IsNotAmong e.id (remove es at ++ ws) = away_both e.id (remove es at) ws (away_of e.id es at parts.0) (waits_away e.id source steps parts.1) in
          let is : remove p.list.entries at ≡ remove es at ++ ws = ap (λ (l : Listing). remove l.entries at) over.list ∙ remove_front es ws at fits in (
            longer at s p ws over.list fits,
            record { below = subst (λ (l : Listing). e.id < l.next_id) (sym over.list) may.below; away = subst (IsNotAmong e.id) (sym is) there_ },
          )
      by_change (Exchange at e false) fits over own =
          let ws : List Entry = waits source steps in
          let inside = exchanged_there false at e s.list.entries fits in (
            fits.0,
            ap (λ (l : Listing). slice_get l.entries at) over.list ∙ get_front s.list.entries ws at inside ∙ fits.1,
            alike_id fits.0 e fits.2,
          )
      by_change (Move from to) fits over own = (longer from s p (waits source steps) over.list fits.0, longer to s p (waits source steps) over.list fits.1)

  pub ready_packets : AreOver (Packets source change current ∷ steps) live phys → AreOwn (Packets source change current ∷ steps) live → IsReady change (store_at phys source)
  ready_packets over own =
      let s : StoreValue = store_at live source in
      ready_of s (store_at phys source) possible (over_here over) (own_part (λ es. HaveOwnIds s.list.next_id (s.list.entries ++ es)) (own.each source within))

  pub back_packets : AreOver (Packets source change current ∷ steps) live phys → back change (store_at phys source).list.entries ≡ back change (store_at live source).list.entries
  back_packets over = back_over change (waits source steps) (store_at live source) (store_at phys source) possible (over_here over)

-- with no place left the lists are the packets
over_no_steps : (live phys : List StoreValue) → AreOver [] live phys → phys ≡ live
over_no_steps live phys over = ext_get_or _ phys live over.many (λ source inside. over_none (store_at live source) (store_at phys source) (over.each source (omega (arith, inside, over.many))))

-- all steps
pub record Travels (steps : List Step) (now phys : Content) : Type 0 where
  pub ready : AreReady steps phys
  pub ends : all_made steps phys ≡ after_steps steps now
  pub back : ways_made steps phys ≡ ways_back steps now

pub travels : (steps : List Step) (live phys : List StoreValue) (now : Content) → now.stores ≡ live → ArePossible steps now → AreOwn steps live → AreOver steps live phys → Travels steps now (record now { stores = phys })
travels [] live phys now is possible own over = record {
  ready = tt;
  ends = ap (λ (stores : List StoreValue). record now { stores = stores }) (over_no_steps live phys over ∙ sym is);
  back = refl;
}
travels (Packets source change current ∷ steps) live phys now is possible own over =
    let P : List StoreValue → Type 0 = λ stores. (source < length stores) × IsPossible change (store_at stores source).list.entries in
    let fits : P live = subst P is possible.0 in
    let stores' : List StoreValue = slice_set live source (store_changed change (store_at live source)) in
    let next : (after_step (Packets source change current) now).stores ≡ stores' = ap (λ (stores : List StoreValue). slice_set stores source (store_changed change (store_at stores source))) is in
    let rest = travels steps stores' (slice_set phys source (store_made change (store_at phys source))) (after_step (Packets source change current) now) next possible.1
    (own_packets source change current steps live phys fits.0 fits.1 own) (over_packets source change current steps live phys fits.0 fits.1 over) in
    let inside : source < length phys = omega (arith, fits.0, over.many) in
    let same : back change (store_at phys source).list.entries ≡ back change (store_at now.stores source).list.entries =
    back_packets source change current steps live phys fits.0 fits.1 over ∙ ap (λ (stores : List StoreValue). back change (store_at stores source).list.entries) (sym is) in
    record {
      ready = ((inside, ready_packets source change current steps live phys fits.0 fits.1 over own), rest.ready);
      ends = rest.ends;
      back = ap (λ (c : Change). Packets source c now.current ∷ ways_made steps (made (Packets source change current) (record now { stores = phys }))) same
          ∙ ap (λ (ways : List Step). Packets source (back change (store_at now.stores source).list.entries) now.current ∷ ways) rest.back;
    }
travels (Script script current ∷ steps) live phys now is possible own over =
    let rest = travels steps live phys (after_step (Script script current) now) is possible.1 (record { each = own.each }) (record { many = over.many; each = over.each }) in
    record { ready = (tt, rest.ready); ends = rest.ends; back = ap (λ (ways : List Step). Script now.script now.current ∷ ways) rest.back }

-- fewer steps own fewer packets
own_tail : (step : Step) (steps : List Step) (live : List StoreValue) → AreOwn (step ∷ steps) live → AreOwn steps live
own_tail (Script script current) steps live own = record { each = own.each }
own_tail (Packets source change current) steps live own = record { each = λ other inside. by_source (nat_eq source other) change (store_at live other) other (own.each other inside) }
  where
    by_source : (b : Bool) (c : Change) (s : StoreValue) (other : ℕ) → HaveOwnIds s.list.next_id (s.list.entries ++ of_source b (owned_before c (owned other steps)) (owned other steps)) → HaveOwnIds s.list.next_id (s.list.entries ++ owned other steps)
    by_source false c s other own = own
    by_source true (Put at e) s other own = middle_left s.list.next_id e s.list.entries (owned other steps) own
    by_source true (Take at) s other own = own
    by_source true (Exchange at e true) s other own = middle_left s.list.next_id e s.list.entries (owned other steps) own
    by_source true (Exchange at e false) s other own = own
    by_source true (Move from to) s other own = own

own_less : (more steps : List Step) (live : List StoreValue) → AreOwn (turned_onto more steps) live → AreOwn steps live
own_less [] steps live own = own
own_less (step ∷ more) steps live own = own_tail step steps live (own_less more (step ∷ steps) live own)

-- a place more
placeable_of : (step : Step) (steps : List Step) (live phys : List StoreValue) → HasSource (length live) step → AreOwn (step ∷ steps) live → AreOver steps live phys → IsPlaceable step phys
placeable_of (Script script current) steps live phys has own over = tt
placeable_of (Packets source (Take at) current) steps live phys has own over = tt
placeable_of (Packets source (Exchange at e cuts) current) steps live phys has own over = tt
placeable_of (Packets source (Move from to) current) steps live phys has own over = tt
placeable_of (Packets source (Put at e) current) steps live phys has own over =
    let s : StoreValue = store_at live source in
    let o = over.each source has in
    let before : HaveOwnIds s.list.next_id (s.list.entries ++ e ∷ owned source steps) = subst (λ (b : Bool). HaveOwnIds s.list.next_id (s.list.entries ++ of_source b (e ∷ owned source steps) (owned source steps))) (is_same source) (own.each source has) in
    let may = middle_may s.list.next_id e s.list.entries (owned source steps) before in
    let parts = both_away e.id s.list.entries (owned source steps) may.away in
    let away : IsNotAmong e.id (s.list.entries ++ waits source steps) = away_both e.id s.list.entries (waits source steps) parts.0 (waits_away e.id source steps parts.1) in (
      omega (arith, has, over.many),
      subst (λ (l : Listing). MayReturn e l.next_id l.entries) (sym o.list) (record { below = may.below; away = away }),
    )
  where
    both_away : (id : ℕ) (xs ys : List Entry) → IsNotAmong id (xs ++ ys) → IsNotAmong id xs × IsNotAmong id ys
    both_away id [] ys away = (tt, away)
    both_away id (x ∷ xs) ys away = let rest = both_away id xs ys away.1 in ((away.0, rest.0), rest.1)

same_waits : (source : ℕ) (change : Change) (current : ℕ) (steps : List Step) (live phys : List StoreValue) → ((ws : List Entry) → waits_before change ws ≡ ws) → AreOver steps live phys → AreOver (Packets source change current ∷ steps) live phys
same_waits source change current steps live phys same over = record {
  many = over.many;
  each = λ other inside. subst (λ (ws : List Entry). IsOver ws (store_at live other) (store_at phys other)) (sym (part other)) (over.each other inside);
}
  where
    part : (other : ℕ) → of_source (nat_eq source other) (waits_before change (waits other steps)) (waits other steps) ≡ waits other steps
    part other = ap (λ (ws : List Entry). of_source (nat_eq source other) ws (waits other steps)) (same (waits other steps)) ∙ any_part (nat_eq source other) (waits other steps)

-- a place more in one source
abbrev HasPlace : Entry → List Step → List StoreValue → ℕ → Bool → StoreValue → Type 0
HasPlace e steps live other b s = IsOver (of_source b (waits other steps ++ vacant e ∷ []) (waits other steps)) (store_at live other) s

place_here : (source : ℕ) (e : Entry) (steps : List Step) (live phys : List StoreValue) → source < length live → AreOver steps live phys → (other : ℕ) → other < length live → (other ≡ source) ⊎ (other ≡ source → ⊥)
    → HasPlace e steps live other (nat_eq source other) (store_at (slice_set phys source (placed e (store_at phys source))) other)
place_here source e steps live phys has over other inside (inl same) =
    let out : source < length phys = omega (arith, has, over.many) in
    let done : HasPlace e steps live source true (placed e (store_at phys source)) = over_placed e (waits source steps) (store_at live source) (store_at phys source) (over.each source has) in
    subst (λ (q : ℕ). HasPlace e steps live q (nat_eq source q) (store_at (slice_set phys source (placed e (store_at phys source))) q)) (sym same)
    (subst (λ (b : Bool). HasPlace e steps live source b (store_at (slice_set phys source (placed e (store_at phys source))) source)) (sym (is_same source))
    (subst (λ (s : StoreValue). HasPlace e steps live source true s) (sym (here phys source _ out)) done))
place_here source e steps live phys has over other inside (inr apart) =
    let is : nat_eq source other ≡ false = differs source other (nat_eq source other) refl (λ same. apart (sym same)) in
    subst (λ (b : Bool). HasPlace e steps live other b (store_at (slice_set phys source (placed e (store_at phys source))) other)) (sym is)
    (subst (λ (s : StoreValue). HasPlace e steps live other false s) (sym (there phys source other _ apart)) (over.each other inside))

placed_over : (step : Step) (steps : List Step) (live phys : List StoreValue) → HasSource (length live) step → AreOver steps live phys → AreOver (step ∷ steps) live (with_place step phys)
placed_over (Script script current) steps live phys has over = record { many = over.many; each = over.each }
placed_over (Packets source (Take at) current) steps live phys has over = same_waits source (Take at) current steps live phys (λ ws. refl) over
placed_over (Packets source (Exchange at e cuts) current) steps live phys has over = same_waits source (Exchange at e cuts) current steps live phys (λ ws. refl) over
placed_over (Packets source (Move from to) current) steps live phys has over = same_waits source (Move from to) current steps live phys (λ ws. refl) over
placed_over (Packets source (Put at e) current) steps live phys has over = record {
  many = length-set phys source _ ∙ over.many;
  each = λ other inside. place_here source e steps live phys has over other inside (same_source other source);
}

-- places for steps, the last one first
pub record HasPlaces (batch steps : List Step) (live phys : List StoreValue) : Type 0 where
  pub placeable : ArePlaceable batch phys
  pub over : AreOver (turned_onto batch steps) live (with_places batch phys)

pub places_over : (batch steps : List Step) (live phys : List StoreValue) → HaveSources (length live) batch → AreOwn (turned_onto batch steps) live → AreOver steps live phys → HasPlaces batch steps live phys
places_over [] steps live phys has own over = record { placeable = tt; over = over }
places_over (step ∷ batch) steps live phys has own over =
    let mine = own_less batch (step ∷ steps) live own in
    let rest = places_over batch (step ∷ steps) live (with_place step phys) has.1 own (placed_over step steps live phys has.0 over) in
    record { placeable = (placeable_of step steps live phys has.0 mine over, rest.placeable); over = rest.over }

-- lists without places
pub over_same : (live : List StoreValue) → ((source : ℕ) → source < length live → length (store_at live source).marks ≡ length (store_at live source).list.entries) → AreOver [] live live
over_same live marked = record {
  many = refl;
  each = λ source inside. let s : StoreValue = store_at live source in record {
    list = ap (λ (es : List Entry). record s.list { entries = es }) (sym (append-nil s.list.entries));
    tail = [];
    marks = sym (append-nil s.marks);
    long = refl;
    marked = marked source inside;
  };
}

pub no_memory : StepsNeedNoMemory
no_memory batch now has own marked possible =
    let owns = own_of_held (last_first batch) now.stores own in
    let places = places_over batch [] now.stores now.stores has owns (over_same now.stores marked) in
    let done = travels (last_first batch) now.stores (with_places batch now.stores) now refl possible owns places.over in
    record { placeable = places.placeable; ready = done.ready; ends = done.ends; back = done.back }
