-- Texts and tallies of findings and others.
use Rattle.std.proofs.Common.{◌≡◌, ℕ, List, Option, ◌++◌, ap, sym, ◌∙◌}
use Rattle.std.proofs.KnownBytes.{Appends-trans}
use Rattle.std.proofs.lemmas.Grind.{flat_map-append}
use Rattle.std.specs.Io.KnownBytes.{Appends}
use Rattle.stream_checks.specs.declared.finding.Finding.{Finding}
use Rattle.stream_checks.specs.declared.finding.Tally.{Tally}
use Rattle.macroblock_lists.specs.declared.layouts.Form.{Form}
use Rattle.stream_checks.specs.Severity.{plus, tally_of}
use Rattle.stream_checks.specs.Texts.{text_of, texts_of}
use Rattle.stream_checks.proofs.Tallies.{tally_append}

pub two_texts : (form : Form) (some others : List Finding) (w0 w1 w2 : Option (List ℕ))
    → Appends w0 w1 (texts_of form some) → Appends w1 w2 (texts_of form others) → Appends w0 w2 (texts_of form (some ++ others))
two_texts form some others w0 w1 w2 a b = rw (flat_map-append (text_of form) some others) (Appends-trans _ _ _ _ _ a b)

pub two_tallies : (some others : List Finding) (a b all : Tally) → a ≡ tally_of some → b ≡ tally_of others → all ≡ plus a b → all ≡ tally_of (some ++ others)
two_tallies some others a b all of_some of_others is =
    is ∙ ap (λ (tally : Tally). plus tally b) of_some ∙ ap (λ (tally : Tally). plus (tally_of some) tally) of_others ∙ sym (tally_append some others)
