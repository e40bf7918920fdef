use Rattle.std.proofs.Common.{◌≡◌, ℕ, arith, length, map, rules, take}
use Rattle.std.proofs.lemmas.List.{length-map, length-take}
use Rattle.stream_sources.proofs.OneStream.{no_memory}
use Rattle.stream_sources.specs.declared.faults.StreamFault.TheVariants.{NoMemory}
use Rattle.frame_session.proofs.Sources.{are_as_many, are_few, read_more, refused_at}
use Rattle.frame_session.proofs.serving.read_sources.Goals as goal

pub returns-in-Err-clause-refused : goal.returns-in-Err-clause-refused
returns-in-Err-clause-refused g c =
    refused_at g.B.FileBytes.bytes c.args.sources.now c.loop-bytes.bytes-index c.len-source.result c.bytes-item.result c.loop-bytes.files.items c.in-Err.fault c.loop-bytes-test.true c.bytes-item.is (search rules) c.loop-bytes.invariant c.in-Err.ensures

pub returns-in_default-clause-refused : goal.returns-in_default-clause-refused
returns-in_default-clause-refused g c =
    refused_at g.B.FileBytes.bytes c.args.sources.now c.loop-bytes.bytes-index c.len-source.result c.bytes-item.result c.loop-bytes.files.items NoMemory c.loop-bytes-test.true c.bytes-item.is (search rules) c.loop-bytes.invariant (no_memory (g.B.FileBytes.bytes c.bytes-item.result) c.in-Ok.file c.in-Ok.ensures)

pub loop-bytes-preserved : goal.loop-bytes-preserved
loop-bytes-preserved g c =
    read_more g.B.FileBytes.bytes c.args.sources.now c.loop-bytes.bytes-index c.bytes-item.result c.loop-bytes.files.items c.push.new.self.items c.in-Ok.file c.loop-bytes-test.true c.bytes-item.is c.loop-bytes.invariant c.in-Ok.ensures c.in-Ok-push.ensures.items

pub returns-clause-count : goal.returns-clause-count
returns-clause-count g c =
    let n : ℕ = c.loop-bytes.bytes-index in
    let files : length c.loop-bytes.files.items ≡ length (map g.B.FileBytes.bytes (take n c.args.sources.now)) = are_as_many (map g.B.FileBytes.bytes (take n c.args.sources.now)) c.loop-bytes.files.items c.loop-bytes.invariant in
    omega (arith, files, length-map (take n c.args.sources.now) g.B.FileBytes.bytes, length-take n c.args.sources.now, c.loop-bytes.auto.bytes-index-end, c.loop-bytes-test.false)

pub returns-clause-few : goal.returns-clause-few
returns-clause-few g c = are_few (map g.B.FileBytes.bytes (take c.loop-bytes.bytes-index c.args.sources.now)) c.loop-bytes.files.items c.loop-bytes.invariant
