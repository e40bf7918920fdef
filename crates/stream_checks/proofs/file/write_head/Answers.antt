use Rattle.std.proofs.Common.{List, ◌++◌}
use Rattle.std.specs.Io.KnownBytes.{Appends}
use Rattle.stream_checks.specs.declared.finding.Finding.{Finding}
use Rattle.stream_checks.specs.Listed.{listed}
use Rattle.stream_checks.specs.Texts.{texts_of}
use Rattle.stream_checks.proofs.Parts.{two_texts}
use Rattle.stream_checks.proofs.file.write_head.Goals as goal

pub returns-clause-written : goal.returns-clause-written
returns-clause-written g c =
    let form = c.args.form in
    let all : List Finding = listed c.found.result ++ listed c.found-2.result ++ listed c.found-3.result in
    let written : Appends (g.W.Write.contents c.args.w.now) (g.W.Write.contents c.write_found-3.new.w) (texts_of form all) =
    two_texts form _ _ _ _ _ (two_texts form _ _ _ _ _ c.in_ok-count.ensures.written c.in_ok-size.ensures.written) c.in_ok-rate.ensures.written in
    rw (c.found.ensures, c.found-2.ensures, c.found-3.ensures, c.claim_trouble-claim.ensures, c.size_trouble-size.ensures, c.rate_trouble.ensures, c.first_key_size.ensures, c.as_slice-packets.ensures) at written
