-- The bytes of the pictures of cached outcomes, and the limit that a cache may have.
use Rattle.std.specs.Prelude.{ℕ, ◌+◌, ◌≤◌, ◌⊎◌, List, [], ◌∷◌, length, map, sum, Option, Some, None}
use Rattle.std.specs.List.{sum_by}
use Rattle.std.specs.Option.{option_map_or}
use Rattle.pixel_planes.specs.Pictures.{PictureSamples}
use Rattle.stream_steps.specs.PlaneBytes.{plane_bytes}
use Rattle.state_cache.specs.declared.outcomes.Kept.{Kept}
use Rattle.state_cache.specs.declared.outcomes.PacketKey.{PacketKey}

-- the bytes of a picture: its three planes, which have the sides of whole macroblocks
abbrev pub picture_bytes : PictureSamples → ℕ
picture_bytes picture =
    plane_bytes picture.luma.width picture.luma.height + plane_bytes picture.cb.width picture.cb.height + plane_bytes picture.cr.width picture.cr.height

-- the pictures that an outcome holds: its own, and the three references of its state
abbrev pub pictures_of : Kept → List PictureSamples
pictures_of outcome =
    let references = outcome.state.references in
    outcome.picture ∷ references.last ∷ references.golden ∷ references.altref ∷ []

-- the bytes of an outcome: each of its pictures is counted, also where it shares its planes with another one. So the sum over
-- outcomes is at least what their distinct pictures take
abbrev pub outcome_bytes : Kept → ℕ
outcome_bytes outcome = sum (map picture_bytes (pictures_of outcome))

abbrev pub bytes_in : Option Kept → ℕ
bytes_in outcome = option_map_or outcome_bytes outcome 0

-- the bytes of all cached outcomes
abbrev pub cached_bytes : List (PacketKey × Kept) → ℕ
cached_bytes entries = sum_by (λ entry. outcome_bytes entry.1) entries

-- the outcomes take at most the bytes of the limit, if there is one, or only one is cached
abbrev pub IsWithinBytes : Option ℕ → List (PacketKey × Kept) → Type 0
IsWithinBytes None entries = Unit {0}
IsWithinBytes (Some limit) entries = (cached_bytes entries ≤ limit) ⊎ (length entries ≤ 1)
