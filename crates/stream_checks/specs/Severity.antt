-- Damage and notes.
use Rattle.std.specs.Prelude.{◌+◌, Bool, true, false, not, List, count_by}
use Rattle.stream_checks.specs.declared.finding.Finding.{Finding}
use Rattle.stream_checks.specs.declared.finding.Tally.{Tally}
use Rattle.stream_checks.specs.declared.finding.Trouble.{Trouble}
use Rattle.stream_checks.specs.declared.finding.Trouble.TheVariants.{Refused, PastFirst, PastToken, UnreadFirst, UnreadToken, ComesTwice, BreaksStep, CutRecord, InWebm}
use Rattle.stream_checks.specs.declared.webm_trouble.WebmTrouble.{WebmTrouble}
use Rattle.stream_checks.specs.declared.webm_trouble.WebmTrouble.TheVariants.{UnlistedBlock}

-- a block of a track that is not listed may be of another track than the video
abbrev pub is_webm_damage : WebmTrouble → Bool
is_webm_damage (UnlistedBlock begins track) = false
is_webm_damage trouble = true

-- samples are lost, or they are not those that were coded; anything else is only worth a note
abbrev pub is_damage : Trouble → Bool
is_damage (Refused cause lost) = true
is_damage (PastFirst bytes) = true
is_damage (PastToken partition bytes) = true
is_damage (UnreadFirst bytes size) = true
is_damage (UnreadToken partition bytes size) = true
is_damage (ComesTwice breaks_step) = breaks_step
is_damage (BreaksStep stamp before step) = true
is_damage (CutRecord number begins claimed left) = true
is_damage (InWebm trouble) = is_webm_damage trouble
is_damage trouble = false

-- how many findings are damage, and how many are notes
abbrev pub tally_of : List Finding → Tally
tally_of findings = record {
  damage = count_by (λ finding. is_damage finding.trouble) findings;
  notes = count_by (λ finding. not (is_damage finding.trouble)) findings;
}

-- of findings and others
abbrev pub plus : Tally → Tally → Tally
plus some others = record { damage = some.damage + others.damage; notes = some.notes + others.notes }
