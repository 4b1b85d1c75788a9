-- One more task's answer, counted.
use Rattle.std.specs.Prelude.{ℕ, ◌+◌, ◌≤◌, ◌≡◌}
use Rattle.lemmas.specs.Counts.{bit}
use Rattle.paper.specs.Answer.Cases.{Answer, Answer.Refused, Answer.Idle, Answer.Held, Answer.Moved}
use Rattle.paper.specs.Answer.Task.{is_idle, is_held}
use Rattle.outcomes.specs.declared.Outcomes.{Outcomes}

-- what one answer adds to the tasks that moved; `is_idle` and `is_held` tell it of the others
abbrev pub moved_count : Answer → ℕ
moved_count (Refused r) = 0
moved_count Idle = 0
moved_count Held = 0
moved_count Moved = 1

-- the counts can grow
pub record Growable (t : Outcomes) : Type 0 where
  pub idle : t.idle ≤ 64
  pub moved : t.moved ≤ 64
  pub held : t.held ≤ 64

pub record Added (t : Outcomes) (a : Answer) (t' : Outcomes) : Type 0 where
  pub idle : t'.idle ≡ t.idle + bit (is_idle a)
  pub moved : t'.moved ≡ t.moved + moved_count a
  pub held : t'.held ≡ t.held + bit (is_held a)
