use Rattle.std.proofs.Common.{◌≡◌, List, ◌++◌}
use Rattle.std.specs.Io.KnownBytes.{Appends}
use Rattle.stream_checks.specs.declared.finding.Finding.{Finding}
use Rattle.stream_checks.specs.Listed.{listed}
use Rattle.stream_checks.specs.Severity.{tally_of}
use Rattle.stream_checks.specs.Texts.{texts_of}
use Rattle.stream_checks.proofs.Parts.{two_tallies, two_texts}
use Rattle.stream_checks.proofs.checker.write_around.Goals as goal

pub returns-clause-written : goal.returns-clause-written
returns-clause-written g c =
    let form = c.args.form in
    let all : List Finding = listed c.found.result ++ listed c.found-2.result ++ listed c.found-3.result ++ listed c.found-4.result ++ listed c.found-5.result ++ listed c.found-6.result ++ listed c.found-7.result ++ listed c.found-8.result in
    let written : Appends (g.W.Write.contents c.args.w.now) (g.W.Write.contents c.write_found-8.new.w) (texts_of form all) =
    two_texts form _ _ _ _ _ (two_texts form _ _ _ _ _ (two_texts form _ _ _ _ _ (two_texts form _ _ _ _ _ (two_texts form _ _ _ _ _ (two_texts form _ _ _ _ _ (two_texts form _ _ _ _ _ c.in_ok-refused.ensures.written c.in_ok-empty.ensures.written) c.in_ok-to_golden.ensures.written) c.in_ok-to_altref.ensures.written) c.in_ok-twice.ensures.written) c.in_ok-stamp.ensures.written) c.in_ok-size.ensures.written) c.in_ok-hidden.ensures.written in
    rw (c.found.ensures, c.found-2.ensures, c.found-3.ensures, c.found-4.ensures, c.found-5.ensures, c.found-6.ensures, c.found-7.ensures, c.found-8.ensures) at written

pub returns-clause-counted : goal.returns-clause-counted
returns-clause-counted g c =
    let refused : List Finding = listed c.found.result in
    let empty : List Finding = listed c.found-2.result in
    let to_golden : List Finding = listed c.found-3.result in
    let to_altref : List Finding = listed c.found-4.result in
    let twice : List Finding = listed c.found-5.result in
    let stamp : List Finding = listed c.found-6.result in
    let size : List Finding = listed c.found-7.result in
    let hidden : List Finding = listed c.found-8.result in
    let two : c.plus.result ≡ tally_of (refused ++ empty) = two_tallies refused empty _ _ _ c.in_ok-refused.ensures.counted c.in_ok-empty.ensures.counted c.plus.ensures in
    let three : c.plus-2.result ≡ tally_of (refused ++ empty ++ to_golden) = two_tallies (refused ++ empty) to_golden _ _ _ two c.in_ok-to_golden.ensures.counted c.plus-2.ensures in
    let four : c.plus-read.result ≡ tally_of (refused ++ empty ++ to_golden ++ to_altref) = two_tallies (refused ++ empty ++ to_golden) to_altref _ _ _ three c.in_ok-to_altref.ensures.counted c.plus-read.ensures in
    let five : c.plus-3.result ≡ tally_of (refused ++ empty ++ to_golden ++ to_altref ++ twice) = two_tallies (refused ++ empty ++ to_golden ++ to_altref) twice _ _ _ four c.in_ok-twice.ensures.counted c.plus-3.ensures in
    let six : c.plus-4.result ≡ tally_of (refused ++ empty ++ to_golden ++ to_altref ++ twice ++ stamp) = two_tallies (refused ++ empty ++ to_golden ++ to_altref ++ twice) stamp _ _ _ five c.in_ok-stamp.ensures.counted c.plus-4.ensures in
    let seven : c.plus-5.result ≡ tally_of (refused ++ empty ++ to_golden ++ to_altref ++ twice ++ stamp ++ size) = two_tallies (refused ++ empty ++ to_golden ++ to_altref ++ twice ++ stamp) size _ _ _ six c.in_ok-size.ensures.counted c.plus-5.ensures in
    let eight : c.plus-6.result ≡ tally_of (refused ++ empty ++ to_golden ++ to_altref ++ twice ++ stamp ++ size ++ hidden) = two_tallies (refused ++ empty ++ to_golden ++ to_altref ++ twice ++ stamp ++ size) hidden _ _ _ seven c.in_ok-hidden.ensures.counted c.plus-6.ensures in
    rw (c.found.ensures, c.found-2.ensures, c.found-3.ensures, c.found-4.ensures, c.found-5.ensures, c.found-6.ensures, c.found-7.ensures, c.found-8.ensures) at eight
