-- What is known after packets, with fewer outcomes cached and less known.
use Rattle.std.proofs.Common.{◌≡◌, ℕ, Bool, true, false, cond, List, [], ◌∷◌, ◌++◌, Option, Some, None, Ok, nat_eq, refl, sym, ap, subst, ◌∙◌}
use Rattle.std.proofs.lemmas.Bool.{eqb-true}
use Rattle.std.specs.Cmp.{nat_eq_equiv}
use Rattle.vp8_tables.specs.Tables.{TableEntries}
use Rattle.frame_header.specs.Tags.{has_key_tag}
use Rattle.reference_frames.specs.Steps.{step_of}
use Rattle.state_cache.specs.declared.outcomes.Kept.{Kept}
use Rattle.state_cache.specs.EditLaws.{DropsKeepCoherence}
use Rattle.state_cache.specs.Views.{Before, CoherentFrom, Drops, Fits, MarkedPacket, View, entering, failed, known, known_after, leaving, stepped, step_result, unknown, with_cached}

-- less is known, or the same
abbrev pub Below : Before → Before → Type 0
Below unknown c = Unit {0}
Below (known state) c = c ≡ known state
Below failed c = c ≡ failed

below_same : (b : Before) → Below b b
below_same unknown = tt
below_same (known state) = refl
below_same failed = refl

entering_less : (b c : Before) (key marked : Bool) → Below b c → Below (cond key (known None) (cond marked unknown b)) (cond key (known None) (cond marked unknown c))
entering_less b c true marked h = refl
entering_less b c false true h = tt
entering_less b c false false h = h

pub drops_same : (o : Option Kept) → Drops o o
drops_same None = tt
drops_same (Some kept) = refl

-- none of these packets has the id
abbrev pub Apart : ℕ → List MarkedPacket → Type 0
Apart id [] = Unit {0}
Apart id (p ∷ ps) = (p.id ≡ id → ⊥) × Apart id ps

other_kept : (kept : View) (id q : ℕ) (new : Kept) (b : Bool) → nat_eq q id ≡ b → (q ≡ id → ⊥) → cond b (Some new) (kept q) ≡ kept q
other_kept kept id q new true e h = absurd (h (eqb-true q id e))
other_kept kept id q new false e h = refl

own_kept : (kept : View) (id : ℕ) (new : Kept) (b : Bool) → nat_eq id id ≡ b → cond b (Some new) (kept id) ≡ Some new
own_kept kept id new true e = refl
own_kept kept id new false e = let same : nat_eq id id ≡ true = nat_eq_equiv.refl id in cc

pub same_kept : (kept : View) (id : ℕ) (new : Kept) → with_cached kept id new id ≡ Some new
same_kept kept id new = own_kept kept id new (nat_eq id id) refl

-- the same outcomes are cached for these packets
abbrev pub Agree : List MarkedPacket → View → View → Type 0
Agree [] kept kept' = Unit {0}
Agree (p ∷ ps) kept kept' = (kept p.id ≡ kept' p.id) × Agree ps kept kept'

pub apart_agree : (ps : List MarkedPacket) (kept : View) (id : ℕ) (new : Kept) → Apart id ps → Agree ps kept (with_cached kept id new)
apart_agree [] kept id new a = tt
apart_agree (p ∷ ps) kept id new a = (sym (other_kept kept id p.id new (nat_eq p.id id) refl a.0), apart_agree ps kept id new a.1)

module _ (tables : TableEntries) where
  fits_less : (b c : Before) (bytes : List ℕ) (o o' : Option Kept) → Below b c → Drops o o' → Fits tables c bytes o' → Fits tables b bytes o
  fits_less b c bytes None o' h d f = tt
  fits_less unknown c bytes (Some k) o' h d f = tt
  fits_less (known s) c bytes (Some k) o' h d f = subst (λ x. Fits tables x bytes (Some k)) h (subst (λ o. Fits tables c bytes o) d f)
  fits_less failed c bytes (Some k) o' h d f = subst (λ x. Fits tables x bytes (Some k)) h (subst (λ o. Fits tables c bytes o) d f)

  pub leaving_less : (b c : Before) (bytes : List ℕ) (o o' : Option Kept) → Below b c → Drops o o' → Fits tables c bytes o' → Below (leaving tables b bytes o) (leaving tables c bytes o')
  leaving_less b c bytes (Some k) o' h d f = subst (λ o. leaving tables c bytes o ≡ known (Some k.state)) (sym d) refl
  leaving_less unknown c bytes None o' h d f = tt
  leaving_less (known s) c bytes None None h d f = subst (λ x. Below (stepped tables (known s) bytes) (stepped tables x bytes)) (sym h) (below_same (stepped tables (known s) bytes))
  leaving_less (known s) c bytes None (Some k) h d f =
      let g : step_of tables s bytes ≡ Ok (step_result k) = subst (λ x. Fits tables x bytes (Some k)) h f in
      rw g refl
  leaving_less failed c bytes None None h d f = subst (λ x. Below (stepped tables failed bytes) (stepped tables x bytes)) (sym h) (below_same (stepped tables failed bytes))
  leaving_less failed c bytes None (Some k) h d f = absurd (subst (λ x. Fits tables x bytes (Some k)) h f)

  -- with fewer outcomes cached and less known it is still coherent
  pub weaker : (ps : List MarkedPacket) (b c : Before) (kept kept' : View) → Below b c → ((id : ℕ) → Drops (kept id) (kept' id)) → CoherentFrom tables c ps kept' → CoherentFrom tables b ps kept
  weaker [] b c kept kept' h d f = tt
  weaker (p ∷ ps) b c kept kept' h d f =
      let low : Below (entering b p) (entering c p) = entering_less b c (has_key_tag p.bytes) p.marked h in (
        fits_less (entering b p) (entering c p) p.bytes (kept p.id) (kept' p.id) low (d p.id) f.0,
        weaker ps (leaving tables (entering b p) p.bytes (kept p.id)) (leaving tables (entering c p) p.bytes (kept' p.id)) kept kept'
            (leaving_less (entering b p) (entering c p) p.bytes (kept p.id) (kept' p.id) low (d p.id) f.0) d f.1,
      )

  pub drops_keep_coherence : DropsKeepCoherence tables
  drops_keep_coherence packets old new coherent drops = weaker packets (known None) (known None) new old refl drops coherent

  pub coherent_parts : (b : Before) (xs ys : List MarkedPacket) (kept : View) → CoherentFrom tables b (xs ++ ys) kept → CoherentFrom tables b xs kept × CoherentFrom tables (known_after tables b xs kept) ys kept
  coherent_parts b [] ys kept f = (tt, f)
  coherent_parts b (x ∷ xs) ys kept f =
      let parts = coherent_parts (leaving tables (entering b x) x.bytes (kept x.id)) xs ys kept f.1 in
      ((f.0, parts.0), parts.1)

  pub coherent_join : (b : Before) (xs ys : List MarkedPacket) (kept : View) → CoherentFrom tables b xs kept → CoherentFrom tables (known_after tables b xs kept) ys kept → CoherentFrom tables b (xs ++ ys) kept
  coherent_join b [] ys kept f g = g
  coherent_join b (x ∷ xs) ys kept f g = (f.0, coherent_join (leaving tables (entering b x) x.bytes (kept x.id)) xs ys kept f.1 g)

  pub agree_known : (b : Before) (ps : List MarkedPacket) (kept kept' : View) → Agree ps kept kept' → known_after tables b ps kept ≡ known_after tables b ps kept'
  agree_known b [] kept kept' a = refl
  agree_known b (p ∷ ps) kept kept' a =
      agree_known (leaving tables (entering b p) p.bytes (kept p.id)) ps kept kept' a.1
      ∙ ap (λ (o : Option Kept). known_after tables (leaving tables (entering b p) p.bytes o) ps kept') a.0

  pub agree_coherent : (b : Before) (ps : List MarkedPacket) (kept kept' : View) → Agree ps kept kept' → CoherentFrom tables b ps kept → CoherentFrom tables b ps kept'
  agree_coherent b [] kept kept' a f = tt
  agree_coherent b (p ∷ ps) kept kept' a f = (
    subst (λ o. Fits tables (entering b p) p.bytes o) a.0 f.0,
    subst (λ o. CoherentFrom tables (leaving tables (entering b p) p.bytes o) ps kept') a.0 (agree_coherent (leaving tables (entering b p) p.bytes (kept p.id)) ps kept kept' a.1 f.1),
  )
