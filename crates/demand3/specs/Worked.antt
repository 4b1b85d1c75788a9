-- Demand 3 on the smallest moves that differ in what is not taken, and whose choices differ at an entry that no component has.
use Rattle.std.specs.Prelude.{ℕ, zero, suc, ◌<◌, ◌≤◌, ◌≡◌, refl, List, [], ◌∷◌, ◌++◌, get_or, ℤ, pos}
use Rattle.std.proofs.Common.{arith}
use Rattle.std.specs.Float.{nan}
use Rattle.lemmas.specs.Counts.{count_where}
use Rattle.lemmas.specs.Bools.{never, every}
use Rattle.lemmas.specs.Cells.{table}
use Rattle.paper.specs.declared.Mode.TheVariants.{Pair, Perm}
use Rattle.paper.specs.declared.Form.TheVariants.{Sw, Wolff}
use Rattle.paper.specs.Answer.Cases.{Answer.Held, Answer.Moved}
use Rattle.paper.specs.Panel.Input.{Lattice, Call, Choices, Buffers, system}
use Rattle.paper.specs.Site.Acting.{pair_differs, acts}
use Rattle.paper.specs.Site.Bonds.{whole, holds}
use Rattle.paper.specs.Component.Sizes.{size_of, is_first, label_of}
use Rattle.paper.specs.Move.Moving.{other, has_one, reached, final}
use Rattle.paper.specs.Refusal.Rule.{Kept}
use Rattle.paper.specs.Answer.Move.{Answers, Accepted.moved}
use Rattle.paper.specs.Answer.Same.{SameTaken}
use Rattle.paper.specs.Answer.Team.{Team, owner_rules, read_call}
use Rattle.paper.specs.Rows.Cases.{+, -, line, plain, first, buffers}
use Rattle.laws.specs.Decided.{any}
use Rattle.laws.specs.ByAnswer.{goes_by, stays_by}
use Rattle.demand3.specs.Statement.{Move, Such, SameRows, Two, ComposedAt, Composed, composite, place_of, inverse, identity}
use Rattle.demand3.specs.Such.{itself}
use Rattle.demand3.specs.Teams.{TeamMove, answered, team_such, team_demand3}

-- two sites with two bonds between them
abbrev twins : List ℤ → Lattice
twins couplings = line 2 2 (1 ∷ 0 ∷ []) (1 ∷ 0 ∷ []) couplings

-- pair, SW. The second call has a coupling, a temperature, a cut, a site and a seed of its own, and entries of its own behind the group's two
abbrev warm : Call
warm = plain Pair Sw (twins []) (first 2)

abbrev hot : Call
hot = record {
  mode = Pair;
  form = Sw;
  lattice = twins (pos 3 ∷ []);
  pins = warm.pins;
  group = record { len = 2; systems = 0 ∷ 1 ∷ 5 ∷ 0 ∷ 0 ∷ 0 ∷ 0 ∷ 0 ∷ [] };
  temperature = whole 2;
  cuts = nan ∷ [];
  reference = 9;
  seed = 9;
}

abbrev flips : List ℕ → Choices
flips xs = record { choices = xs; greys = [] }

-- all sites act and are the one component 0, so entry 1 is unused
abbrev at : List ℤ → Buffers
at spins = buffers spins (0 ∷ 0 ∷ []) (0 ∷ 0 ∷ 1 ∷ []) (2 ∷ 0 ∷ 0 ∷ 0 ∷ []) 1

abbrev start : List ℤ
start = + ∷ + ∷ - ∷ - ∷ []

abbrev turned : List ℤ
turned = - ∷ - ∷ + ∷ + ∷ []

turns : Answers warm (flips (1 ∷ 0 ∷ [])) (at start) Moved (at turned)
unfolding every any holds acts pair_differs size_of is_first count_where other has_one reached final table
turns = goes_by warm (flips (1 ∷ 0 ∷ [])) (at start) (at turned) (0 ∷ 0 ∷ []) [] refl (λ _. (refl, refl)) refl

turns_both : Answers warm (flips (1 ∷ 1 ∷ [])) (at start) Moved (at turned)
unfolding every any holds acts pair_differs size_of is_first count_where other has_one reached final table
turns_both = goes_by warm (flips (1 ∷ 1 ∷ [])) (at start) (at turned) (0 ∷ 0 ∷ []) [] refl (λ _. (refl, refl)) refl

stays : Answers hot (flips (0 ∷ 0 ∷ [])) (at turned) Moved (at turned)
unfolding every any holds acts pair_differs size_of is_first count_where other has_one reached final table
stays = goes_by hot (flips (0 ∷ 0 ∷ [])) (at turned) (at turned) (0 ∷ 0 ∷ []) [] refl (λ _. (refl, refl)) refl

systems : (k : ℕ) → k < 2 → system hot k ≡ system warm k
systems zero h = refl
systems (suc zero) h = refl
systems (suc (suc k)) h = absurd (omega arith)

taken : (p : Choices) → SameTaken warm p hot p
taken p = record {
  call = record {
    mode = refl;
    form = refl;
    panel = record { n = refl; d = refl; s = refl; fwd = refl; bwd = refl; couplings = λ t. never t };
    pins = refl;
    members = refl;
    systems = systems;
    temperature = λ t. never t;
    cuts = λ t. never t;
    reference = λ t. never t;
    seed = λ t. never t;
  };
  choices = record { choices = λ _. refl; greys = λ _. refl };
}

-- the two moves are two such moves, and compose to the third although their sum at entry 1 is not its flip there
pub record Smallest : Type 0 where
  pub two : Two warm (flips (1 ∷ 0 ∷ [])) (flips (0 ∷ 0 ∷ [])) (at start) (at turned) (at turned) (at turned)
  pub one : Such warm (flips (1 ∷ 1 ∷ [])) (at start) (at turned)
  pub composed : Composed warm start (0 ∷ 0 ∷ []) (flips (1 ∷ 0 ∷ [])) (flips (0 ∷ 0 ∷ [])) (flips (1 ∷ 1 ∷ []))

pub smallest : Smallest
smallest = record {
  two = record {
    first = record { call = warm; choices = flips (1 ∷ 0 ∷ []); same = itself warm _; move = Move.moved turns };
    second = record { call = hot; choices = flips (0 ∷ 0 ∷ []); same = taken _; move = Move.moved stays };
    handed = refl;
  };
  one = record { call = warm; choices = flips (1 ∷ 1 ∷ []); same = itself warm _; move = Move.moved turns_both };
  composed = record { is = λ i h _. used i h };
}
  where
    used : (i : ℕ) → i < 2 → ComposedAt warm (flips (1 ∷ 0 ∷ [])) (flips (0 ∷ 0 ∷ [])) (flips (1 ∷ 1 ∷ [])) (label_of (0 ∷ 0 ∷ []) i)
    used zero h k l = refl
    used (suc zero) h k l = refl
    used (suc (suc i)) h k l = absurd (omega arith)

-- Wolff with site 1 pinned: the move is held, and the next such move is held too
abbrev seam : Call
seam = record {
  mode = Pair;
  form = Wolff;
  lattice = twins [];
  pins = 0 ∷ 1 ∷ [];
  group = first 2;
  temperature = whole 1;
  cuts = [];
  reference = 0;
  seed = 0;
}

holds_still : Answers seam (flips []) (at start) Held (at start)
unfolding every any holds acts pair_differs size_of is_first count_where other has_one reached final
holds_still = stays_by seam (flips []) (at start) (at start) (0 ∷ 0 ∷ []) [] refl (λ _. (refl, refl)) refl refl

held_once : Such seam (flips []) (at start) (at start)
held_once = record { call = seam; choices = flips []; same = itself seam _; move = Move.held holds_still }

pub held_twice : Two seam (flips []) (flips []) (at start) (at start) (at start) (at start)
held_twice = record { first = held_once; second = held_once; handed = refl }

-- ---- two moves of the team 0, which has the systems 0 and 1; between them the other team writes its system 2, which held no spins
abbrev team0 : Team
team0 = record { owners = 0 ∷ 0 ∷ 1 ∷ []; team = 0 }

abbrev shared : Call
shared = plain Pair Sw (line 2 3 (1 ∷ 0 ∷ []) (1 ∷ 0 ∷ []) []) (first 2)

abbrev there : List ℤ → List ℤ → Buffers
there spins third = at (spins ++ third)

goes : Answers (read_call team0 shared) (flips (1 ∷ 0 ∷ [])) (there start (pos 0 ∷ pos 7 ∷ [])) Moved (there turned (pos 0 ∷ pos 7 ∷ []))
unfolding every any holds acts pair_differs size_of is_first count_where other has_one reached final table
goes =
    goes_by (read_call team0 shared) (flips (1 ∷ 0 ∷ [])) (there start (pos 0 ∷ pos 7 ∷ [])) (there turned (pos 0 ∷ pos 7 ∷ []))
    (0 ∷ 0 ∷ []) [] refl (λ _. (refl, refl)) refl

goes_back : Answers (read_call team0 shared) (flips (1 ∷ 0 ∷ [])) (there turned (- ∷ + ∷ [])) Moved (there start (- ∷ + ∷ []))
unfolding every any holds acts pair_differs size_of is_first count_where other has_one reached final table
goes_back =
    goes_by (read_call team0 shared) (flips (1 ∷ 0 ∷ [])) (there turned (- ∷ + ∷ [])) (there start (- ∷ + ∷ []))
    (0 ∷ 0 ∷ []) [] refl (λ _. (refl, refl)) refl

owner_bytes : Kept (owner_rules team0 3)
owner_bytes = (refl, (record { bytes = each; team = omega arith }, tt))
  where
    each : (t : ℕ) → t < 3 → get_or team0.owners t 0 ≤ 1
    each zero h = omega arith
    each (suc zero) h = omega arith
    each (suc (suc zero)) h = omega arith
    each (suc (suc (suc t))) h = absurd (omega arith)

pub record TeamTwice : Type 0 where
  pub first : TeamMove team0 shared (flips (1 ∷ 0 ∷ [])) (there start (pos 0 ∷ pos 7 ∷ [])) (there turned (pos 0 ∷ pos 7 ∷ []))
  pub second : TeamMove team0 shared (flips (1 ∷ 0 ∷ [])) (there turned (- ∷ + ∷ [])) (there start (- ∷ + ∷ []))
  pub handed : SameRows shared (turned ++ (- ∷ + ∷ [])) (turned ++ (pos 0 ∷ pos 7 ∷ []))
  -- so the team's rows are restored, by the law
  pub restored : SameRows shared (start ++ (- ∷ + ∷ [])) (start ++ (pos 0 ∷ pos 7 ∷ []))

pub team_twice : TeamTwice
team_twice = record {
  first = one;
  second = two;
  handed = same;
  restored = (team_demand3 team0 shared tt refl).rows.inverse_restores refl (record { first = team_such one; second = team_such two; handed = same });
}
  where
    one : TeamMove team0 shared (flips (1 ∷ 0 ∷ [])) (there start (pos 0 ∷ pos 7 ∷ [])) (there turned (pos 0 ∷ pos 7 ∷ []))
    one = answered owner_bytes Moved moved goes

    two : TeamMove team0 shared (flips (1 ∷ 0 ∷ [])) (there turned (- ∷ + ∷ [])) (there start (- ∷ + ∷ []))
    two = answered owner_bytes Moved moved goes_back

    same : SameRows shared (turned ++ (- ∷ + ∷ [])) (turned ++ (pos 0 ∷ pos 7 ∷ []))
    same zero hi zero hk = refl
    same zero hi (suc zero) hk = refl
    same zero hi (suc (suc k)) hk = absurd (omega arith)
    same (suc zero) hi zero hk = refl
    same (suc zero) hi (suc zero) hk = refl
    same (suc zero) hi (suc (suc k)) hk = absurd (omega arith)
    same (suc (suc i)) hi k hk = absurd (omega arith)

-- demand 3's choices as buffers: row 7's composite, an inverse and the identity, in the Wolff form with three systems; and flips of four sites in SW
abbrev three : Call
three = plain Perm Wolff (line 1 3 (0 ∷ []) (0 ∷ []) []) (first 3)

abbrev four : Call
four = plain Pair Sw (line 4 2 (0 ∷ 1 ∷ 2 ∷ 3 ∷ []) (0 ∷ 1 ∷ 2 ∷ 3 ∷ []) []) (first 2)

abbrev choosing : List ℕ → Choices
choosing choices = record { choices = choices; greys = [] }

pub record ChoiceBuffers : Type 0 where
  pub composed : (composite three (choosing (1 ∷ 2 ∷ 0 ∷ [])) (choosing (1 ∷ 0 ∷ 2 ∷ []))).choices ≡ 2 ∷ 1 ∷ 0 ∷ []
  pub inverted : (inverse three (choosing (1 ∷ 2 ∷ 0 ∷ []))).choices ≡ 2 ∷ 0 ∷ 1 ∷ []
  pub identical : (identity three).choices ≡ 0 ∷ 1 ∷ 2 ∷ []
  pub added : (composite four (choosing (0 ∷ 0 ∷ 1 ∷ 1 ∷ [])) (choosing (0 ∷ 1 ∷ 0 ∷ 1 ∷ []))).choices ≡ 0 ∷ 1 ∷ 1 ∷ 0 ∷ []
  pub unflipped : (identity four).choices ≡ 0 ∷ 0 ∷ 0 ∷ 0 ∷ []

pub choice_buffers : ChoiceBuffers
unfolding table place_of
choice_buffers = record { composed = refl; inverted = refl; identical = refl; added = refl; unflipped = refl }
