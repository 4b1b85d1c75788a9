-- The backward table of a forward one: right wherever there is one.
use Rattle.std.specs.Prelude.{ℕ, Bool, true, false, List, []}
use Rattle.paper.specs.Refusal.Rules.{Inverse}
use Rattle.paper.specs.Answer.Frame.{frame_lattice, HasBack}
use Rattle.neighbours.specs.Backward.{Turned}

-- where there is a backward table, bwd is one
pub record Reversed (n d : ℕ) (fwd bwd : List ℕ) : Type 0 where
  pub right : (b : List ℕ) → Inverse n d fwd b → Inverse n d fwd bwd

pub reversed_of : (n d : ℕ) (fwd : List ℕ) (r : Bool) (bwd : List ℕ) → Turned n d fwd r bwd → Reversed n d fwd bwd
reversed_of n d fwd true bwd t = record { right = λ b v. t.inverse }
reversed_of n d fwd false bwd t = record { right = λ b v. absurd (t.none b v) }

-- a text's table
pub back_complete :
    (text bwd : List ℕ)
    → Reversed (frame_lattice text []).n (frame_lattice text []).d (frame_lattice text []).fwd bwd
    → HasBack text
    → Inverse (frame_lattice text []).n (frame_lattice text []).d (frame_lattice text []).fwd bwd
back_complete text bwd r h = r.right h.bwd h.inverse
