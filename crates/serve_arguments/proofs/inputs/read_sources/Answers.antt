use Rattle.std.proofs.Common.{◌≡◌, ◌+◌, ◌∙◌, [], ◌∷◌, ap, map, rules, subst, sym, take}
use Rattle.std.proofs.lemmas.List.{map-append}
use Rattle.stream_files.specs.declared.ivf.TheConstants.{EMPTY}
use Rattle.serve_arguments.specs.CommandLines.{names_of}
use Rattle.serve_arguments.specs.Readings.{AreNamed, contents_of}
use Rattle.serve_arguments.proofs.SourcesRead.{named_at, named_first, named_more, source_unread}
use Rattle.serve_arguments.proofs.inputs.read_sources.Goals as goal

pub loop-path-init : goal.loop-path-init
loop-path-init g c =
    let items : c.in_ok-all.all.items ≡ c.in_ok-bytes.bytes ∷ [] = search rules in
    rw items (c.in_ok-bytes.ensures.named, tt)

pub loop-path-preserved : goal.loop-path-preserved
loop-path-preserved g c =
    let contents = contents_of (g.R.NamedFiles.bytes_at c.args.rt.now) EMPTY in
    let more = named_more contents c.args.first.now c.args.more.now c.loop-path.path-index _ (map (λ bytes. bytes.items) c.loop-path.all.items) c.in_ok-bytes-2.bytes.items c.loop-path-test.true c.loop-path.invariant c.in_ok-bytes-2.ensures.named in
    let pushed = ap (map (λ bytes. bytes.items)) c.in-Ok.ensures.items ∙ map-append (λ bytes. bytes.items) c.loop-path.all.items (c.in_ok-bytes-2.bytes ∷ []) in
    subst (AreNamed contents (c.args.first.now ∷ names_of (take (c.loop-path.path-index + 1) c.args.more.now))) (sym pushed) more

pub returns-in_err-bytes-clause-fault : goal.returns-in_err-bytes-clause-fault
returns-in_err-bytes-clause-fault g c =
    let why = source_unread (contents_of (g.R.NamedFiles.bytes_at c.args.rt.now) EMPTY) (c.args.first.now ∷ names_of c.args.more.now) c.args.first.now c.in_err-bytes.field-0.0 (named_first c.args.first.now c.args.more.now) c.in_err-bytes.ensures.fault in
    search rules

pub returns-in_err-bytes-2-clause-fault : goal.returns-in_err-bytes-2-clause-fault
returns-in_err-bytes-2-clause-fault g c =
    let why = source_unread (contents_of (g.R.NamedFiles.bytes_at c.args.rt.now) EMPTY) (c.args.first.now ∷ names_of c.args.more.now) _ c.in_err-bytes-2.field-0.0 (named_at c.args.first.now c.args.more.now c.loop-path.path-index _ c.loop-path-test.true) c.in_err-bytes-2.ensures.fault in
    search rules
