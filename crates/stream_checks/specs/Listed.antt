-- A finding or none.
use Rattle.std.specs.Prelude.{List, [], ◌∷◌, Option, Some, None}
use Rattle.stream_checks.specs.declared.finding.Finding.{Finding}
use Rattle.stream_checks.specs.declared.finding.Spot.{Spot}
use Rattle.stream_checks.specs.declared.finding.Trouble.{Trouble}

-- what is found at a packet
abbrev pub found : Spot → Option Trouble → Option Finding
found spot None = None
found spot (Some trouble) = Some (record { spot = Some spot; trouble = trouble })

-- and in the file around the packets
abbrev pub found_around : Option Trouble → Option Finding
found_around None = None
found_around (Some trouble) = Some (record { spot = None; trouble = trouble })

-- as a list
abbrev pub listed : Option Finding → List Finding
listed None = []
listed (Some finding) = finding ∷ []
