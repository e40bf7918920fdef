use Rattle.std.proofs.Common.{◌≡◌, true, false, sym, ◌∙◌}
use Rattle.std.specs.Prelude.{codes}
use Rattle.std.specs.Str.{bytes_eq}
use Rattle.std.proofs.lemmas.List.Sums.{AllPass-from_list_all, list_all-from_AllPass}
use Rattle.hex.specs.Hex.{is_hex_digit}
use Rattle.request_lines.proofs.HexWords.{nothing_decoded, nothing_written, digits_decoded, dash_bytes, digits_bytes_of, other_none}
use Rattle.request_lines.proofs.hex_text.Hex.of_word.Goals as goal

pub invariant_of-result : goal.invariant_of-result
invariant_of-result c = rw nothing_written nothing_decoded

pub returns-then-is_dash : goal.returns-then-is_dash
returns-then-is_dash c =
    let dash : bytes_eq c.args.word.now (codes "-") ≡ true = sym c.is_dash.ensures ∙ c.if-is_dash.true in
    sym (dash_bytes c.args.word.now dash)

pub returns-then-not-has_only_hex_digits : goal.returns-then-not-has_only_hex_digits
returns-then-not-has_only_hex_digits c =
    let no_dash : bytes_eq c.args.word.now (codes "-") ≡ false = sym c.is_dash.ensures ∙ c.if-is_dash.false in
    sym (other_none c.args.word.now no_dash (λ digits. cc (sym (list_all-from_AllPass is_hex_digit c.args.word.now digits) ∙ sym c.has_only_hex_digits.ensures ∙ c.if-not-has_only_hex_digits.true)))

pub invariant_of-result-2 : goal.invariant_of-result-2
invariant_of-result-2 c =
    digits_decoded c.args.word.now c.if-word-ne0.false (AllPass-from_list_all is_hex_digit c.args.word.now (sym c.has_only_hex_digits.ensures ∙ c.if-not-has_only_hex_digits.false))

pub returns : goal.returns
returns c =
    let no_dash : bytes_eq c.args.word.now (codes "-") ≡ false = sym c.is_dash.ensures ∙ c.if-is_dash.false in
    sym (digits_bytes_of c.args.word.now no_dash c.if-word-ne0.false (AllPass-from_list_all is_hex_digit c.args.word.now (sym c.has_only_hex_digits.ensures ∙ c.if-not-has_only_hex_digits.false)))
