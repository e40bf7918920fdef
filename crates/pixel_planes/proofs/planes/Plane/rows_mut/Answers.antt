use Rattle.std.proofs.Common.{◌≡◌, ℕ, ◌+◌, ◌*◌, ◌++◌, false, List, length, take, drop, refl, ap, sym, ◌∙◌, arith}
use Rattle.std.specs.Simd.Lanes.{put_chunk}
use Rattle.std.proofs.lemmas.List.{take_at}
use Rattle.std.proofs.lemmas.Simd.{length-put_chunk}
use Rattle.pixel_planes.specs.Samples.{PlaneValue}
use Rattle.pixel_planes.specs.Layout.{layout_of, shown_in, apart_in, cropped, bordered_side, with_rows_written}
use Rattle.pixel_planes.proofs.Rows.{written_range}
use Rattle.pixel_planes.proofs.InBlock.{shown_value, apart_laid_out}
use Rattle.pixel_planes.proofs.Written.{view_of_rows_written, cut_out}
use Rattle.pixel_planes.proofs.planes.Plane.rows_mut.Goals as goal

-- the list of a `Vec` after its slice was written
all_of : (n : ℕ) (new items : List ℕ) → n ≡ length items → length new ≡ length items → take n (new ++ drop (length new) items) ≡ new
all_of n new items same len = take_at new (drop (length new) items) n (len ∙ sym same)

-- the same, after a lent range of it was written too
written : (n start : ℕ) (new items ws : List ℕ) → n ≡ length items → length new ≡ length items → take n ((take start (take n (new ++ drop (length new) items)) ++ (ws ++ drop (length ws) (drop start (take n (new ++ drop (length new) items))))) ++ drop (length (take start (take n (new ++ drop (length new) items)) ++ (ws ++ drop (length ws) (drop start (take n (new ++ drop (length new) items)))))) (take n (new ++ drop (length new) items))) ≡ put_chunk start new ws
written n start new items ws same len = rw (all_of n new items same len) (written_range n start new ws (same ∙ sym len))

pub invariant_of-self-lent : goal.invariant_of-self-lent
invariant_of-self-lent c w =
    let o = c.self.invariant.0 in
    let l = rw (c.deref_mut.ensures.value) at c.part.ensures.len in
    let left = written c.self.inside.samples.len (c.self.inside.border * bordered_side c.self.inside.width c.self.inside.border + c.self.inside.border) c.part.new.samples c.self.inside.samples.items w c.self.inside.samples.ok.0 l in
    (apart_laid_out c.self.inside.width c.self.inside.height c.self.inside.border _ o.wide o.high o.border_small (ap length left ∙ length-put_chunk (c.self.inside.border * bordered_side c.self.inside.width c.self.inside.border + c.self.inside.border) c.part.new.samples w ∙ l ∙ o.room), λ e. cc e)

pub returns : goal.returns
returns c =
    let o = c.self.invariant.0 in
    let across : ℕ = bordered_side c.self.inside.width c.self.inside.border in
    let start : ℕ = c.self.inside.border * bordered_side c.self.inside.width c.self.inside.border + c.self.inside.border in
    let l = rw (c.deref_mut.ensures.value) at c.part.ensures.len in
    let r = rw (c.deref_mut.ensures.value) at c.part.ensures.rows in
    let parted : apart_in c.self.inside.width c.self.inside.height c.self.inside.border c.part.new.samples ≡ shown_in (layout_of c.self.inside.width c.self.inside.height c.self.inside.border c.self.inside.first c.self.inside.stride) c.self.inside.samples.items = r c.self.inside.first o in
    let all : take c.self.inside.samples.len (c.part.new.samples ++ drop (length c.part.new.samples) c.self.inside.samples.items) ≡ c.part.new.samples = all_of c.self.inside.samples.len c.part.new.samples c.self.inside.samples.items c.self.inside.samples.ok.0 l in
    let size : c.self.inside.height * bordered_side c.self.inside.width c.self.inside.border ≡ c.args.self.now.shown.height * bordered_side c.args.self.now.shown.width c.args.self.now.border = ap (λ (p : PlaneValue). p.shown.height * bordered_side p.shown.width p.border) c.self.view_is in (
      (
        refl,
        λ w.
            ap (λ (items : List ℕ). shown_value c.self.inside.width c.self.inside.height c.self.inside.border start across false items) (written c.self.inside.samples.len start c.part.new.samples c.self.inside.samples.items w c.self.inside.samples.ok.0 l)
            ∙ view_of_rows_written c.self.inside.width c.self.inside.height c.self.inside.border c.self.inside.first c.self.inside.stride c.self.inside.is_current c.self.inside.samples.items c.part.new.samples w o l parted
            ∙ ap (λ (p : PlaneValue). with_rows_written p w) c.self.view_is,
      ),
      record {
        writes_back = tt;
        value =
            ap (λ (p : PlaneValue). cropped p.shown.width p.shown.height (bordered_side p.shown.width p.border) c.slice_mut.result.now) (sym c.self.view_is)
            ∙ ap (cropped c.self.inside.width c.self.inside.height across) c.slice_mut.ensures.value
            ∙ cut_out c.self.inside.width c.self.inside.height c.self.inside.border _
            ∙ ap (apart_in c.self.inside.width c.self.inside.height c.self.inside.border) all
            ∙ parted
            ∙ ap (λ (p : PlaneValue). p.shown) c.self.view_is;
        len = omega (arith, c.slice_mut.ensures.len, size);
      },
    )
