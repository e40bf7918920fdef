use Rattle.std.specs.Prelude.{ℕ, List}
use Rattle.std.specs.Option.{option_copied}
use Rattle.frame_header.specs.Contexts.{first_context}
use Rattle.frame_header.specs.Tags.{has_key_tag}
use Rattle.macroblock_lists.specs.FirstChains.{AreBytes, context_in}
use Rattle.macroblock_lists.proofs.ContextBytes.{first_bytes}
use Rattle.macroblock_lists.proofs.FirstChains.{first_is_chain}
use Rattle.macroblock_lists.proofs.FirstRead.{AreChains, first_is_read_so, first_end_is_of_chain}
use Rattle.macroblock_lists.proofs.ModeBits.{mode_bits_are_of_chains, records_are_chains}
use Rattle.macroblock_lists.proofs.laws.first_partitions_are_chains.Goals as goal

pub returns : goal.returns
returns c =
    let chains : AreChains c.args.tables.now = record {
      first = c.headers_are_chains.ensures.first;
      trailing = rw c.updates.ensures at c.headers_are_chains.ensures.trailing;
      frames = c.records_are_chains.ensures.all;
      key_subs = rw c.key_subs.ensures at c.prove_bytes.ensures;
      own = c.headers_are_over_their_own.ensures;
    } in
    let bytes : (packet : List ℕ) → AreBytes (first_context c.args.tables.now (has_key_tag packet) (context_in (option_copied c.args.known))).probabilities =
    λ packet. first_bytes c.args.tables.now (has_key_tag packet) (option_copied c.args.known) c.prove_known.ensures in
    record {
      chain = first_is_chain c.args.tables.now (option_copied c.args.known) chains.first chains.trailing chains.frames chains.key_subs bytes;
      read = first_is_read_so c.args.tables.now (option_copied c.args.known) chains bytes;
      end = first_end_is_of_chain c.args.tables.now (option_copied c.args.known) chains bytes;
      records = records_are_chains c.args.tables.now (option_copied c.args.known) chains bytes;
      bits = mode_bits_are_of_chains c.args.tables.now (option_copied c.args.known) chains bytes;
    }
