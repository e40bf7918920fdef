use Rattle.std.proofs.Common.{◌≡◌, ℕ, ◌+◌, ◌<◌, ◌⊎◌, inl, inr, length, sym, subst, ◌∙◌, arith}
use Rattle.packet_edits.specs.Marks.{StoreValue}
use Rattle.edit_history.specs.Steps.{store_at}
use Rattle.edit_history.proofs.Rooms.{found}
use Rattle.edit_history.proofs.Travels.{same_source}
use Rattle.edit_history.proofs.places.prove_marked.Goals as goal

pub loop-i-preserved : goal.loop-i-preserved
loop-i-preserved c = λ source less. by_case source less (same_source source c.loop-i.i)
  where
    below : (p m : ℕ) → p < m + 1 → (p ≡ m → ⊥) → p < m
    below p m less other = omega (arith, less, other)

    by_case : (source : ℕ) → source < c.loop-i.i + 1 → (source ≡ c.loop-i.i) ⊎ (source ≡ c.loop-i.i → ⊥) → length (store_at c.args.stores.now source).marks ≡ length (store_at c.args.stores.now source).list.entries
    by_case source less (inl same) =
        let is : c.index-stores-i.result ≡ store_at c.args.stores.now c.loop-i.i = c.index-stores-i.is ∙ found c.args.stores.now c.loop-i.i c.index-stores-i.result c.loop-i-test.true in
        subst (λ (q : ℕ). length (store_at c.args.stores.now q).marks ≡ length (store_at c.args.stores.now q).list.entries) (sym same)
        (subst (λ (s : StoreValue). length s.marks ≡ length s.list.entries) is c.prove_few.ensures.marks)
    by_case source less (inr other) = c.loop-i.invariant source (below source c.loop-i.i less other)
