-- What holds of the steps of a trace.
use Rattle.std.specs.Prelude.{◌^◌, ◌<◌, ◌≤◌}
use Rattle.script_nodes.specs.declared.traces.Step.{Step}
use Rattle.script_nodes.specs.declared.traces.Step.TheVariants.{Cut, Weigh}

-- the position of an area has at most 32 bits, its width and height are those of a picture, and a weight is at most 256
abbrev pub IsStep : Step → Type 0
IsStep (Cut area) = (area.x < 2 ^ 32) × (area.y < 2 ^ 32) × (0 < area.width) × (area.width ≤ 16383) × (0 < area.height) × (area.height ≤ 16383)
IsStep (Weigh weight) = weight ≤ 256
