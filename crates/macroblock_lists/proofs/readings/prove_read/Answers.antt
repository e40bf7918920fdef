use Rattle.std.specs.Prelude.{ℕ, List}
use Rattle.std.specs.Option.{option_copied}
use Rattle.frame_header.specs.Contexts.{first_context}
use Rattle.frame_header.specs.Tags.{has_key_tag}
use Rattle.macroblock_lists.specs.FirstChains.{AreBytes, context_in}
use Rattle.macroblock_lists.proofs.ContextBytes.{first_bytes}
use Rattle.macroblock_lists.proofs.FirstRead.{AreChains}
use Rattle.macroblock_lists.proofs.MarkedRead.{marked_is_read}
use Rattle.macroblock_lists.proofs.readings.prove_read.Goals as goal

pub returns : goal.returns
returns c =
    let chains : AreChains c.args.tables.now = record {
      first = c.headers_are_chains.ensures.first;
      trailing = rw c.updates.ensures at c.headers_are_chains.ensures.trailing;
      frames = c.records_are_chains.ensures.all;
      key_subs = rw c.key_subs.ensures at c.prove_bytes.ensures;
      own = c.headers_are_over_their_own.ensures;
    } in
    let bytes : (packet : List ℕ) → AreBytes (first_context c.args.tables.now (has_key_tag packet) (context_in (option_copied c.args.known))).probabilities =
    λ packet. first_bytes c.args.tables.now (has_key_tag packet) (option_copied c.args.known) c.prove_known.ensures in
    marked_is_read c.args.tables.now (option_copied c.args.known) chains c.splits_are_of_records.ensures.chains bytes
