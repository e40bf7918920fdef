use Rattle.std.proofs.Common.{ℕ, List, Some, length, refl, sym, ap, ◌∙◌, arith}
use Rattle.std.proofs.lemmas.List.{length-set}
use Rattle.std.proofs.lemmas.Option.{slice_get_within}
use Rattle.mode_parser.specs.declared.records.MbMode.{MbMode}
use Rattle.reference_frames.specs.FrameTokens.{TokenState, state_after, token_state}
use Rattle.macroblock_lists.proofs.Walks.{kept-alike, state-next}
use Rattle.macroblock_lists.proofs.frames.Walk.read.Goals as goal

pub returns-then-left-gt0-clause-value : goal.returns-then-left-gt0-clause-value
returns-then-left-gt0-clause-value c =
    let header = c.args.frame.now.header.now in
    let columns : ℕ = c.args.frame.now.columns in
    let modes : List MbMode = c.args.frame.now.records.now.modes.records in
    let new_is = rw c.requires.before.odds at c.read-tokens.ensures.state in
    let read = rw c.requires.before.odds at c.read-tokens.ensures.tokens in
    let left = rw c.left_at-left.ensures at c.if-left-gt0.true in
    let alike = kept-alike header columns c.args.n modes c.args.self.now.own c.args.self.now.marked c.read-tokens.new.self c.args.mode.now c.tokens_are_chains.ensures
    (c.requires.before.alike c.if-not-self.true) c.requires.mode c.requires.before.readers new_is left in
    rw c.if-not-self.true (read ∙ alike.0)

pub returns-then-left-gt0-clause-own : goal.returns-then-left-gt0-clause-own
returns-then-left-gt0-clause-own c =
    let header = c.args.frame.now.header.now in
    let columns : ℕ = c.args.frame.now.columns in
    let modes : List MbMode = c.args.frame.now.records.now.modes.records in
    let own : TokenState = token_state header columns c.args.self.now.own modes c.args.n in
    rw c.if-not-self.true (sym (state-next header columns c.args.self.now.own own (state_after header columns own c.args.n (Some c.args.mode.now)) modes c.args.n c.args.mode.now c.requires.mode refl refl))

pub returns-then-left-gt0-clause-after : goal.returns-then-left-gt0-clause-after
returns-then-left-gt0-clause-after c =
    let header = c.args.frame.now.header.now in
    let columns : ℕ = c.args.frame.now.columns in
    let modes : List MbMode = c.args.frame.now.records.now.modes.records in
    let before = c.requires.before in
    let new_is = rw before.odds at c.read-tokens.ensures.state in
    let left = rw c.left_at-left.ensures at c.if-left-gt0.true in
    record {
      odds = before.odds;
      marked_readers = rw (ap (λ (state : TokenState). length state.readers) new_is ∙ length-set _ _ _) before.marked_readers;
      marked_above = ap (λ (state : TokenState). length state.above) new_is ∙ length-set _ _ _ ∙ before.marked_above;
      readers = before.readers;
      above = before.above;
      alike = λ start. (kept-alike header columns c.args.n modes c.args.self.now.own c.args.self.now.marked c.read-tokens.new.self c.args.mode.now c.tokens_are_chains.ensures
          (before.alike start) c.requires.mode before.readers new_is left).1;
    }

pub catch_up-requires-clause-inside : goal.catch_up-requires-clause-inside
catch_up-requires-clause-inside c =
    let inside = slice_get_within c.args.frame.now.records.now.modes.records c.args.n c.args.mode.now c.requires.mode in
    omega (arith, inside)
