use Rattle.std.proofs.Common.{◌≡◌, ap}
use Rattle.std.proofs.lemmas.Result.{on_ok_weaker}
use Rattle.packet_edits.specs.Marks.{StoreValue}
use Rattle.packet_edits.specs.Saved.{packet_of}
use Rattle.packet_edits.proofs.Records.{whole_written}
use Rattle.packet_edits.proofs.store.Store.save.Goals as goal

pub returns : goal.returns
returns g c =
    let are : c.self.inside.entries ≡ c.args.self.now.list.entries = ap (λ (s : StoreValue). s.list.entries) c.self.view_is in
    on_ok_weaker c.write_records.result
    (λ records. whole_written packet_of c.args.head c.args.self.now.list c.self.inside.entries c.len.result (g.W.Write.contents c.args.w.now) (g.W.Write.contents c.ivf_start.new.w) (g.W.Write.contents c.write_records.new.w) c.len.ensures.value are c.in_ok-ivf_start.ensures records)
    c.write_records.ensures
