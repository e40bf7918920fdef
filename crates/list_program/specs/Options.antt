-- What the options ask for.
use Rattle.std.specs.Prelude.{Bool, true, false, ◌||◌, if◌then◌else◌, Option, Some, None}
use Rattle.list_program.specs.declared.answering.Output.{Output}
use Rattle.list_program.specs.declared.answering.Output.TheVariants.{List, Hashes, Findings, Details}
use Rattle.macroblock_lists.specs.declared.layouts.Form.{Form}
use Rattle.macroblock_lists.specs.declared.layouts.Form.TheVariants as forms
use Rattle.macroblock_lists.specs.declared.layouts.What.{What}
use Rattle.list_program.specs.declared.arguments.Flags.{Flags}
use Rattle.list_program.specs.declared.ranges.Range.{Range}

-- the form of what is written
abbrev pub form_of : Bool → Form
form_of is_json = if is_json then forms.Objects else forms.Lines

-- the output that `--json`, `--hash`, `--check` and `--strict` ask for, in this order; none if they do not go together: `--hash` is given
-- alone, and `--strict` with `--check`
abbrev pub output_by : (is_json is_hash is_check is_strict : Bool) → Option Output
output_by is_json true true is_strict = None
output_by is_json false true is_strict = Some (Findings (record { form = form_of is_json; is_strict = is_strict }))
output_by false true false false = Some Hashes
output_by is_json true false is_strict = None
output_by is_json false false true = None
output_by is_json false false false = Some (List (form_of is_json))

-- the output that asks for parts of packets: none without a range, or with another option than `--json`
abbrev pub details_of : What → Bool → Option Range → Option Output
details_of what is_json None = None
details_of what is_json (Some range) = Some (Details (record { what = what; form = form_of is_json; first = range.first; last = range.last }))

abbrev pub details_by : What → Option Range → Flags → Option Output
details_by what range flags = if flags.is_hash || flags.is_check || flags.is_strict then None else details_of what flags.is_json range
