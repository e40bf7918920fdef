-- Keys of cached outcomes: which are the same.
use Rattle.std.proofs.Common.{◌≡◌, ℕ, Bool, true, false, ◌&&◌, nat_eq, refl, ap, ◌∙◌}
use Rattle.std.specs.Cmp.{IsEquivalence, nat_eq_equiv}
use Rattle.std.proofs.lemmas.Bool.{eqb-true}
use Rattle.state_cache.specs.declared.outcomes.PacketKey.{PacketKey}
use Rattle.state_cache.specs.Views.{same_key}

both_true : (a b : Bool) → (a && b) ≡ true → (a ≡ true) × (b ≡ true)
both_true true b h = (refl, h)
both_true false b h = cc

pub same_is_equal : (k q : PacketKey) → same_key k q ≡ true → k ≡ q
same_is_equal k q h =
    let both = both_true (nat_eq k.source q.source) (nat_eq k.id q.id) h in
    ap (λ (n : ℕ). record k { source = n }) (eqb-true k.source q.source both.0) ∙ ap (λ (n : ℕ). record q { id = n }) (eqb-true k.id q.id both.1)

pub same_key_equiv : IsEquivalence same_key
same_key_equiv = record {
  refl = λ k. ap (λ (b : Bool). b && nat_eq k.id k.id) (nat_eq_equiv.refl k.source) ∙ nat_eq_equiv.refl k.id;
  symm = λ k q. ap (λ (b : Bool). b && nat_eq k.id q.id) (nat_eq_equiv.symm k.source q.source) ∙ ap (λ (b : Bool). nat_eq q.source k.source && b) (nat_eq_equiv.symm k.id q.id);
  congr = λ k q r h. ap (λ (x : PacketKey). same_key x r) (same_is_equal k q h);
}

apart_case : (k q : PacketKey) (b : Bool) → same_key k q ≡ b → (k ≡ q → ⊥) → b ≡ false
apart_case k q true e apart = absurd (apart (same_is_equal k q e))
apart_case k q false e apart = refl

pub keys_apart : (k q : PacketKey) → (k ≡ q → ⊥) → same_key k q ≡ false
keys_apart k q apart = apart_case k q (same_key k q) refl apart

-- keys of one source are compared by their ids
pub same_source : (k : PacketKey) (q : ℕ) → same_key (record { source = k.source; id = q }) k ≡ nat_eq q k.id
same_source k q = ap (λ (b : Bool). b && nat_eq q k.id) (nat_eq_equiv.refl k.source)

-- keys of two sources are not the same
pub other_source : (k : PacketKey) (other q : ℕ) → (other ≡ k.source → ⊥) → same_key (record { source = other; id = q }) k ≡ false
other_source k other q apart = keys_apart (record { source = other; id = q }) k (λ e. apart (ap (λ (x : PacketKey). x.source) e))
