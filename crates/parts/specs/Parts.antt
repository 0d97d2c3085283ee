-- The code's three parts are those of the rules.
use Rattle.std.specs.Prelude.{ℕ}
use Rattle.rules.specs.Text.{job_part, arc_part, section_part}
use Rattle.rules.specs.Text as rules
use Rattle.laws.specs.Text.{Sound, jobs_sound, arcs_sound, sections_sound}
use Rattle.parts.specs.declared.Part.{Part}
use Rattle.parts.specs.declared.Part.TheVariants.{Jobs, Arcs, Sections}

-- which part of a text each is
abbrev pub part_of : Part → rules.Part
part_of Jobs = job_part
part_of Arcs = arc_part
part_of Sections = section_part

-- how many values the largest has
abbrev pub most_values : Part → ℕ
most_values Jobs = 192
most_values Arcs = 512
most_values Sections = 512

pub sound : (p : Part) → Sound (part_of p)
sound Jobs = jobs_sound
sound Arcs = arcs_sound
sound Sections = sections_sound
