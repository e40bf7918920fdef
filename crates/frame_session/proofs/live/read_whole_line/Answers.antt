use Rattle.std.proofs.Common.{Ok, subst, rules}
use Rattle.frame_session.specs.declared.live.Reached.{Reached}
use Rattle.frame_session.proofs.LiveReads.{MorePart, line_cut_off, line_ends, line_goes_on, line_is_last, nothing_read}
use Rattle.frame_session.proofs.live.read_whole_line.Goals as goal

pub parts-init : goal.parts-init
parts-init g c = nothing_read (g.I.Read.remaining c.args.input.now) c.args.line.now c.requires

pub returns-in-Newline : goal.returns-in-Newline
returns-in-Newline g c =
    let r = g.I.Read.remaining in
    line_ends (r c.args.input.now) (r c.parts.input) (r c.read_part.new.input) c.parts.line c.read_part.new.line c.parts.invariant (subst (λ (x : Reached). MorePart (r c.args.input.now) (r c.parts.input) (r c.read_part.new.input) c.parts.line c.read_part.new.line c.parts.invariant (Ok x)) c.in-Newline.is c.in_ok-read_part.ensures)

pub returns-in-End : goal.returns-in-End
returns-in-End g c =
    let r = g.I.Read.remaining in
    line_is_last (r c.args.input.now) (r c.parts.input) (r c.read_part.new.input) c.parts.line c.read_part.new.line c.parts.invariant (subst (λ (x : Reached). MorePart (r c.args.input.now) (r c.parts.input) (r c.read_part.new.input) c.parts.line c.read_part.new.line c.parts.invariant (Ok x)) c.in-End.is c.in_ok-read_part.ensures)

pub parts-preserved : goal.parts-preserved
parts-preserved g c =
    let r = g.I.Read.remaining in
    line_goes_on (r c.args.input.now) (r c.parts.input) (r c.read_part.new.input) c.parts.line c.read_part.new.line c.parts.invariant (subst (λ (x : Reached). MorePart (r c.args.input.now) (r c.parts.input) (r c.read_part.new.input) c.parts.line c.read_part.new.line c.parts.invariant (Ok x)) c.in-Within.is c.in_ok-read_part.ensures)

pub returns-in_err-read_part : goal.returns-in_err-read_part
returns-in_err-read_part g c =
    let r = g.I.Read.remaining in
    let why = line_cut_off (r c.args.input.now) (r c.parts.input) (r c.read_part.new.input) c.parts.line c.read_part.new.line c.parts.invariant c.in_err-read_part.field-0.0 c.in_err-read_part.ensures in
    search rules
