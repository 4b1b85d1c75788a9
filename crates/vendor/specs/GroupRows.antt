-- One group's rows in its members' order, and the call that is asked of them: it sees what the move of the group saw.
use Rattle.std.specs.Prelude.{ℕ, ◌≤◌, ◌<◌, ◌≡◌, refl, true, List, [], ℤ, Float}
use Rattle.std.proofs.Common.{◌∙◌}
use Rattle.lemmas.specs.Bools.{never}
use Rattle.paper.specs.declared.Mode.{Mode}
use Rattle.paper.specs.declared.Mode.TheVariants.{Houd, Pair, Perm, Gperm, Jorg, Cmr}
use Rattle.paper.specs.declared.Form.TheVariants.{Observe}
use Rattle.paper.specs.declared.Task.{Task}
use Rattle.paper.specs.Panel.Input.{Call, graph, pattern, size, ahead}
use Rattle.paper.specs.Panel.Made.{lattice_of}
use Rattle.paper.specs.Panel.Takes.{is_perm, is_gperm}
use Rattle.paper.specs.Site.Acting.{acts}
use Rattle.paper.specs.Site.Bonds.{holds_by, holds}
use Rattle.paper.specs.Component.Labels.{Labels}
use Rattle.laws.specs.Acting.{acts_same, gauge_ext}
use Rattle.laws.specs.Unique.{HoldAlike, labels_ext}
use Rattle.packing.specs.Bytes.{own_group}
use Rattle.packing.specs.Gathered.{group_rows, group_at}
use Rattle.packing.proofs.Laws.{own_pattern}
use Rattle.vendor.specs.Vendor.{asked_by}

-- the vendor's task tells the move's mode, sizes and reference site
pub record SameMove (t : Task) (c : Call) : Type 0 where
  pub mode : t.mode ≡ c.mode
  pub n : t.n ≡ c.lattice.n
  pub d : t.d ≡ c.lattice.d
  pub size : t.group.len ≡ c.group.len
  pub reference : t.reference ≡ c.reference

-- the observation of the group alone
abbrev pub alone : Call → Float → ℕ → Call
alone c temperature seed = record {
  mode = c.mode;
  form = Observe;
  lattice = lattice_of c.lattice.n c.lattice.d (size c) c.lattice.fwd c.lattice.bwd [];
  pins = c.pins;
  group = own_group (size c);
  temperature = temperature;
  cuts = [];
  reference = c.reference;
  seed = seed;
}

-- is what such a task asks
pub asked_alone :
    (t : Task) (c : Call) → SameMove t c
    → asked_by t c.lattice.fwd c.lattice.bwd c.pins ≡ alone c t.temperature t.seed
asked_alone t c e = rw (e.mode, e.n, e.d, e.size, e.reference) refl

module _ (c : Call) (temperature : Float) (seed : ℕ) where
  abbrev v : Call
  v = alone c temperature seed

  module _ (few : size c ≤ 8) where
    pub alone_pattern : (xs : List ℤ) (i k : ℕ) → i < c.lattice.n → k < size c → pattern v (group_rows c xs) i k ≡ pattern c xs i k
    alone_pattern xs i k hi hk = own_pattern (size c) few c.lattice.n (group_rows c xs) i k hk ∙ group_at c xs i k hi hk

    module _ (xs : List ℤ) (some : 0 < size c) (reference : is_gperm c.mode ≡ true → c.reference < c.lattice.n) where
      abbrev rows : List ℤ
      rows = group_rows c xs

      pub alone_acts : (i : ℕ) → i < c.lattice.n → acts v rows i ≡ acts c xs i
      unfolding acts
      alone_acts i hi =
          acts_same c.mode (size c) (pattern v rows c.reference) (pattern c xs c.reference) (pattern v rows i) (pattern c xs i) some
          (λ k hk.
          gauge_ext c.mode (pattern v rows c.reference) (pattern c xs c.reference) (pattern v rows i) (pattern c xs i) k
          (λ g. alone_pattern xs c.reference k (reference g) hk) (alone_pattern xs i k hi hk))

      module _ (perm : is_perm c.mode ≡ true) (inside : (i e : ℕ) → i < c.lattice.n → e < c.lattice.d → ahead c i e < c.lattice.n) where
        holds_in : (m : Mode) → is_perm m ≡ true → (i e : ℕ) → i < c.lattice.n → e < c.lattice.d → holds_by m v rows i e ≡ holds_by m c xs i e
        holds_in Houd q i e hi he = never q
        holds_in Pair q i e hi he = never q
        holds_in Perm q i e hi he = cc (alone_acts i hi, alone_acts (ahead c i e) (inside i e hi he))
        holds_in Gperm q i e hi he = cc (alone_acts i hi, alone_acts (ahead c i e) (inside i e hi he))
        holds_in Jorg q i e hi he = never q
        holds_in Cmr q i e hi he = never q

        alone_holds : HoldAlike (graph c) (holds v rows) (holds c xs)
        unfolding holds
        alone_holds i e hi he = holds_in c.mode perm i e hi he

        -- so labels of the one are labels of the other
        pub alone_labels : {found : ℕ} (l : List ℕ) → Labels (graph v) (holds v rows) l found → Labels (graph c) (holds c xs) l found
        alone_labels l w = labels_ext (graph c) (holds v rows) (holds c xs) l alone_holds w
