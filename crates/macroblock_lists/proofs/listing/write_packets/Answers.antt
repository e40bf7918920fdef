use Rattle.std.proofs.Common.{◌≡◌, ◌+◌, ◌-◌, ◌++◌, ℕ, List, ap, refl, sym, subst, ◌∙◌, arith}
use Rattle.std.proofs.KnownBytes.{Appends-trans}
use Rattle.std.proofs.lemmas.Result.{IfErr-weaker, err_from_is_err_and, on_ok_weaker}
use Rattle.std.specs.List.{flat_map, range_with_len}
use Rattle.std.specs.Io.KnownBytes.{Appends}
use Rattle.macroblock_lists.specs.Fronts.{IsListEnd}
use Rattle.macroblock_lists.specs.Texts.{text_at}
use Rattle.macroblock_lists.proofs.Fronts.{end-after, end-longer}
use Rattle.macroblock_lists.proofs.Loops.{texts_more}
use Rattle.macroblock_lists.proofs.listing.write_packets.Goals as goal

pub returns-in_err-progress-clause-early : goal.returns-in_err-progress-clause-early
returns-in_err-progress-clause-early g c =
    let first = c.args.wanted.first in
    let before = c.args.wanted.count - 1 in
    let last : ℕ = first + before in
    let text : ℕ → List ℕ = text_at c.args.wanted.what c.args.wanted.form c.args.tables.now c.args.packets.now in
    let count : c.args.wanted.count ≡ before + 1 = omega (arith, c.if-wanted-eq0.false) in
    let all : flat_map text (range_with_len first c.args.wanted.count) ≡ flat_map text (range_with_len first before) ++ text last =
    ap (λ (k : ℕ). flat_map text (range_with_len first k)) count ∙ texts_more text first before last refl in
    let p = err_from_is_err_and c.from_residual.result c.from_residual.ensures.1 in
    let early = rw c.in_err-progress.was at c.write_all_but_last.ensures.early in
    rw (p.1, p.2, all) (end-longer (flat_map text (range_with_len first before)) (text last) _ _ _ early)

pub returns-clause-written : goal.returns-clause-written
returns-clause-written g c =
    let first = c.args.wanted.first in
    let before = c.args.wanted.count - 1 in
    let last : ℕ = first + before in
    let text : ℕ → List ℕ = text_at c.args.wanted.what c.args.wanted.form c.args.tables.now c.args.packets.now in
    let count : c.args.wanted.count ≡ before + 1 = omega (arith, c.if-wanted-eq0.false) in
    let all : flat_map text (range_with_len first c.args.wanted.count) ≡ flat_map text (range_with_len first before) ++ text last =
    ap (λ (k : ℕ). flat_map text (range_with_len first k)) count ∙ texts_more text first before last refl in
    rw all (on_ok_weaker c.write_last.result (λ p. Appends-trans _ _ _ _ _ c.in_ok-progress.ensures.written p) c.write_last.ensures.written)

pub returns-clause-early : goal.returns-clause-early
returns-clause-early g c =
    let first = c.args.wanted.first in
    let before = c.args.wanted.count - 1 in
    let last : ℕ = first + before in
    let text : ℕ → List ℕ = text_at c.args.wanted.what c.args.wanted.form c.args.tables.now c.args.packets.now in
    let count : c.args.wanted.count ≡ before + 1 = omega (arith, c.if-wanted-eq0.false) in
    let all : flat_map text (range_with_len first c.args.wanted.count) ≡ flat_map text (range_with_len first before) ++ text last =
    ap (λ (k : ℕ). flat_map text (range_with_len first k)) count ∙ texts_more text first before last refl in
    rw all (IfErr-weaker c.write_last.result _ _ (λ fault is. end-after _ _ _ _ _ fault c.in_ok-progress.ensures.written is) c.write_last.ensures.early)
