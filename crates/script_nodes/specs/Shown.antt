-- The samples that a picture shows, and each step as a function of them.
use Rattle.std.specs.Prelude.{◌≡◌, ℕ, ◌+◌, ◌-◌, ◌*◌, ◌/◌, ◌<◌, Bool, ◌&&◌, nat_le, if◌then◌else◌, List, Option, None, Some}
use Rattle.pixel_planes.specs.Samples.{sample_at}
use Rattle.pixel_planes.specs.Pictures.{PictureSamples, side_of, plane_of}
use Rattle.pixel_planes.specs.declared.pictures.Component.{Component}
use Rattle.pixel_planes.specs.declared.pictures.Component.TheVariants.{Luma, Cb, Cr}
use Rattle.script_nodes.specs.declared.nodes.Area.{Area}
use Rattle.script_nodes.specs.declared.traces.Step.{Step}
use Rattle.script_nodes.specs.declared.traces.Step.TheVariants.{Cut, Weigh}
use Rattle.script_nodes.specs.declared.nodes.Node.{Node}
use Rattle.script_nodes.specs.Frames.{Origin, script_frame, after_steps}

-- the shown size in luma samples, and the shown sample in each column and row of a component
pub record Shown : Type 0 where
  pub width : ℕ
  pub height : ℕ
  pub sample : Component → ℕ → ℕ → ℕ

-- a picture shows this; its other samples are left open
pub record Shows (p : PictureSamples) (shown : Shown) : Type 0 where
  pub wide : p.width ≡ shown.width
  pub high : p.height ≡ shown.height
  pub each : (component : Component) (x y : ℕ) → x < side_of component p.width → y < side_of component p.height → sample_at (plane_of p component) x y ≡ shown.sample component x y

-- the samples that a picture shows
abbrev pub shown_in : PictureSamples → Shown
shown_in p = record { width = p.width; height = p.height; sample = λ component x y. sample_at (plane_of p component) x y }

-- whether an area is inside a picture of this size
abbrev pub is_inside : Area → ℕ → ℕ → Bool
is_inside area width height = nat_le (area.x + area.width) width && nat_le (area.y + area.height) height

-- a luma position in this component
abbrev pub position_in : Component → ℕ → ℕ
position_in Luma n = n
position_in Cb n = n / 2
position_in Cr n = n / 2

-- the samples of an area of a picture
abbrev pub cut_to : Area → Shown → Shown
cut_to area shown = record {
  width = area.width;
  height = area.height;
  sample = λ component x y. shown.sample component (position_in component area.x + x) (position_in component area.y + y);
}

-- the sample of a black picture
abbrev pub black : Component → ℕ
black Luma = 16
black Cb = 128
black Cr = 128

-- a sample at a weight in 256ths, with black at the rest: rounded
abbrev pub weighed : ℕ → ℕ → ℕ → ℕ
weighed weight dark sample = (weight * sample + (256 - weight) * dark + 128) / 256

-- the samples of a picture at a weight
abbrev pub faded_to : ℕ → Shown → Shown
faded_to weight shown = record {
  width = shown.width;
  height = shown.height;
  sample = λ component x y. weighed weight (black component) (shown.sample component x y);
}

-- a step applied to a picture, or none if it crops past the picture's size
abbrev pub step_shown : Step → Shown → Option Shown
step_shown (Cut area) shown = if is_inside area shown.width shown.height then Some (cut_to area shown) else None
step_shown (Weigh weight) shown = Some (faded_to weight shown)

-- the same for a picture that may not exist
abbrev pub use_step : Step → Option Shown → Option Shown
use_step step None = None
use_step step (Some shown) = step_shown step shown

-- steps applied to a picture, or none if one of them crops past the size of its picture
abbrev pub steps_shown : List Step → Shown → Option Shown
steps_shown steps shown = after_steps use_step steps (Some shown)

-- frame i of a script is the frame of this origin with its steps applied, whatever each source shows
abbrev pub IsFollowed : List ℕ → List Node → ℕ → Origin → Type 0
IsFollowed counts nodes i from = (sources : ℕ → ℕ → Option Shown) → script_frame use_step sources counts nodes i ≡ after_steps use_step from.steps (sources from.source from.frame)

-- the size of a picture
abbrev pub Size : Type 0
Size = ℕ × ℕ

-- the size after a step, or none if it crops past the size
abbrev pub step_size : Step → Size → Option Size
step_size (Cut area) size = if is_inside area size.0 size.1 then Some (area.width, area.height) else None
step_size (Weigh weight) size = Some size

abbrev pub use_size : Step → Option Size → Option Size
use_size step None = None
use_size step (Some size) = step_size step size

-- the size after steps, or none if one of them crops past its size
abbrev pub steps_size : List Step → Size → Option Size
steps_size steps size = after_steps use_size steps (Some size)
