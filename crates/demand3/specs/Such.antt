-- A move such as the call c's is one of c itself, and c's is one of every such call.
use Rattle.std.specs.Prelude.{refl}
use Rattle.paper.specs.Answer.Cases.{Answer.Idle, Answer.Held, Answer.Moved}
use Rattle.paper.specs.Panel.Input.{Call, Choices, Buffers}
use Rattle.paper.specs.Answer.Same.{SameTaken}
use Rattle.laws.specs.UntakenAnswers.{taken_back, untaken}
use Rattle.demand3.specs.Statement.{Move, Such, Outcome}

carried : {c a : Call} {p o : Choices} {b b' : Buffers} → SameTaken c p a o → Move c p b b' → Move a o b b'
carried {b = b} {b' = b'} same (Move.idle w) = Move.idle ((untaken same b Idle b').0 w)
carried {b = b} {b' = b'} same (Move.held w) = Move.held ((untaken same b Held b').0 w)
carried {b = b} {b' = b'} same (Move.moved w) = Move.moved ((untaken same b Moved b').0 w)

pub move_of : {c : Call} {p : Choices} {b b' : Buffers} → Such c p b b' → Move c p b b'
move_of m = carried (taken_back m.same) m.move

pub itself : (c : Call) (p : Choices) → SameTaken c p c p
itself c p = record {
  call = record {
    mode = refl;
    form = refl;
    panel = record { n = refl; d = refl; s = refl; fwd = refl; bwd = refl; couplings = λ _. refl };
    pins = refl;
    members = refl;
    systems = λ k h. refl;
    temperature = λ _. refl;
    cuts = λ _. refl;
    reference = λ _. refl;
    seed = λ _. refl;
  };
  choices = record { choices = λ _. refl; greys = λ _. refl };
}

pub outcome : {c : Call} {r : Choices} {b : Buffers} (after : Buffers) → Move c r b after → Outcome c r b
outcome after m = record { after = after; move = λ same. carried same m }

pub own : {c : Call} {r : Choices} {b : Buffers} (o : Outcome c r b) → Move c r b o.after
own {c} {r} o = o.move (itself c r)
