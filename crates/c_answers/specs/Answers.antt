-- What each answer of an entry is in C: the refusal's number and place, both 0 for none, then the values, 0 where it is refused.
use Rattle.std.specs.Prelude.{ℕ, ℤ, pos, Option, None, Some, Result, Ok, Err}
use Rattle.rules.specs.Refusals.{number_of, place_of}
use Rattle.rules.specs.declared.Refusal.{Refusal}
use Rattle.text.specs.declared.Counts.{Counts}
use Rattle.dispatch.specs.declared.Stepped.{Stepped}
use Rattle.c_answers.specs.declared.ZubCounts.{ZubCounts}
use Rattle.c_answers.specs.declared.ZubLength.{ZubLength}
use Rattle.c_answers.specs.declared.ZubCount.{ZubCount}
use Rattle.c_answers.specs.declared.ZubTick.{ZubTick}
use Rattle.c_answers.specs.declared.ZubStepped.{ZubStepped}
use Rattle.c_answers.specs.declared.ZubLate.{ZubLate}
use Rattle.c_answers.specs.declared.ZubVerdict.{ZubVerdict}

-- Of `zub_read`.
abbrev pub counts_of : Result Counts Refusal → ZubCounts
counts_of (Err f) = record { refusal = number_of f; place = place_of f; jobs = 0; arcs = 0; sections = 0 }
counts_of (Ok c) = record { refusal = 0; place = 0; jobs = c.jobs; arcs = c.arcs; sections = c.sections }

-- Of `zub_write` and `zub_answer`.
abbrev pub length_of : Result ℕ Refusal → ZubLength
length_of (Err f) = record { refusal = number_of f; place = place_of f; bytes = 0 }
length_of (Ok n) = record { refusal = 0; place = 0; bytes = n }

-- Of `zub_plan`.
abbrev pub count_of : Result ℕ Refusal → ZubCount
count_of (Err f) = record { refusal = number_of f; place = place_of f; times = 0 }
count_of (Ok n) = record { refusal = 0; place = 0; times = n }

-- Of `zub_start` and `zub_run`.
abbrev pub tick_of : Result ℕ Refusal → ZubTick
tick_of (Err f) = record { refusal = number_of f; place = place_of f; tick = 0 }
tick_of (Ok n) = record { refusal = 0; place = 0; tick = n }

-- The tick is the given one where the step is refused.
abbrev pub ran_of : Result (Option ℕ) Refusal → ℕ → ZubStepped
ran_of (Err f) n = record { refusal = number_of f; place = place_of f; tick = n; ran = 0; job = 0 }
ran_of (Ok None) n = record { refusal = 0; place = 0; tick = n; ran = 0; job = 0 }
ran_of (Ok (Some j)) n = record { refusal = 0; place = 0; tick = n; ran = 1; job = j }

-- Of `zub_step`.
abbrev pub stepped_of : Stepped → ZubStepped
stepped_of s = ran_of s.ran s.tick

-- Of `zub_lateness`.
abbrev pub late_of : Result (Option ℤ) Refusal → ZubLate
late_of (Err f) = record { refusal = number_of f; place = place_of f; finished = 0; lateness = pos 0 }
late_of (Ok None) = record { refusal = 0; place = 0; finished = 0; lateness = pos 0 }
late_of (Ok (Some n)) = record { refusal = 0; place = 0; finished = 1; lateness = n }

-- Of `zub_density`.
abbrev pub verdict_of : Result (Option ℕ) Refusal → ZubVerdict
verdict_of (Err f) = record { refusal = number_of f; place = place_of f; yes = 0; failing = 0 }
verdict_of (Ok None) = record { refusal = 0; place = 0; yes = 1; failing = 0 }
verdict_of (Ok (Some k)) = record { refusal = 0; place = 0; yes = 0; failing = k }
