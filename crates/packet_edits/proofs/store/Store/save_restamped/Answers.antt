use Rattle.std.proofs.Common.{◌≡◌, ap}
use Rattle.std.proofs.lemmas.Result.{on_ok_weaker}
use Rattle.packet_edits.specs.Marks.{StoreValue}
use Rattle.packet_edits.proofs.Restamped.{restamped_written}
use Rattle.packet_edits.proofs.store.Store.save_restamped.Goals as goal

pub returns : goal.returns
returns g c =
    let are : c.self.inside.entries ≡ c.args.self.now.list.entries = ap (λ (s : StoreValue). s.list.entries) c.self.view_is in
    on_ok_weaker c.write_restamped_records.result
    (λ records. restamped_written c.args.pads c.args.head c.self.inside.entries c.args.self.now.list.entries c.len.result (g.W.Write.contents c.args.w.now) (g.W.Write.contents c.ivf_start.new.w) (g.W.Write.contents c.write_restamped_records.new.w) c.len.ensures.value are c.in-Ok.ensures records)
    c.write_restamped_records.ensures
