use Rattle.std.proofs.Common.{◌≡◌, ℕ, List, Err, length, rules, subst, sym, ◌∙◌}
use Rattle.std.proofs.lemmas.List.{length-map}
use Rattle.packet_edits.specs.Marks.{StoreValue}
use Rattle.script_nodes.specs.Nodes.{script_of}
use Rattle.frame_session.specs.Cached.{SessionValue, lists_of}
use Rattle.frame_session.specs.Edits.{list_at}
use Rattle.frame_session.specs.IsOrNoMemory.{IsOrNoMemory}
use Rattle.frame_session.specs.Scripts.{refusal_by_script, script_reported}
use Rattle.frame_session.specs.Sessions.{script_answer}
use Rattle.frame_session.specs.declared.refusal.Refusal.{Refusal}
use Rattle.frame_session.proofs.RefusedScripts.{script_refused}
use Rattle.frame_session.proofs.session.Session.set_script.Goals as goal

pub returns-in-Err-clause-returned : goal.returns-in-Err-clause-returned
returns-in-Err-clause-returned c =
    let stores : List StoreValue = c.self.inside.stores.items in
    let text : List ℕ = c.args.text.now in
    let count : ℕ = length (list_at (lists_of stores) c.self.inside.current).entries in
    let stored : c.len.result ≡ length stores = search rules in
    let sources : c.len.result ≡ length (lists_of stores) = stored ∙ sym (length-map stores (λ (store : StoreValue). store.list)) in
    let refused : IsOrNoMemory (script_reported count (script_of (length (lists_of stores)) text)) (Err (refusal_by_script c.in-Err.fault)) =
    subst (λ (n : ℕ). IsOrNoMemory (script_reported count (script_of n text)) (Err (refusal_by_script c.in-Err.fault))) sources (script_refused count c.len.result text c.in-Err.fault c.in-Err.ensures.refused) in
    subst (λ (v : SessionValue). IsOrNoMemory (script_answer v.state text) (Err c.by_script.result)) c.self.view_is
    (subst (λ (r : Refusal). IsOrNoMemory (script_reported count (script_of (length (lists_of stores)) text)) (Err r)) (sym c.by_script.ensures) refused)
