-- Where the seed's component is held, the form that moves it alone and labels reaches no site.
use Rattle.std.specs.Prelude.{ℕ, ◌<◌, ◌≡◌, Bool, false, not, List, ℤ}
use Rattle.std.proofs.Math.Path.{refl, ap}
use Rattle.std.proofs.Common.{◌∙◌, eqb-true}
use Rattle.std.proofs.Math.Bool.{true}
use Rattle.lemmas.specs.Bools.{never, and_left, and_right}
use Rattle.paper.specs.declared.Form.{Form}
use Rattle.paper.specs.declared.Form.TheVariants.{Sw, Wolff, Observe, Grow}
use Rattle.paper.specs.Panel.Input.{graph, Call, pinned}
use Rattle.paper.specs.Panel.Takes.{one_cluster, labels_by}
use Rattle.paper.specs.Site.Acting.{acts}
use Rattle.paper.specs.Site.Bonds.{holds}
use Rattle.paper.specs.Component.Labels.{Labels}
use Rattle.paper.specs.Component.Sizes.{label_of}
use Rattle.paper.specs.Move.Moving.{reached_by, has_one, held, reached}
use Rattle.paper.specs.Answer.Move.{SeedHeld}
use Rattle.laws.specs.Holding.{held_labels}

seed_only :
    (f : Form) (c : Call) (l : List ℕ) (i : ℕ)
    → labels_by f ≡ true
    → one_cluster f ≡ true
    → reached_by f c.mode c.seed l i ≡ true
    → label_of l i ≡ label_of l c.seed
seed_only Sw c l i f one e = never one
seed_only Wolff c l i f one e = eqb-true _ _ e
seed_only Observe c l i f one e = never one
seed_only Grow c l i f one e = never f

module _
    (c : Call) (xs : List ℤ) (f : labels_by c.form ≡ true) (one : one_cluster c.form ≡ true) (inside : c.seed < c.lattice.n)
    {found : ℕ} (l : List ℕ) (labels : Labels (graph c) (holds c xs) l found) (h : SeedHeld c xs)
  where
    pub none_reached : (i : ℕ) → reached c xs l i ≡ false
    unfolding reached
    none_reached i = go (reached c xs l i) refl
      where
        pinned_there : label_of l i ≡ label_of l c.seed → held c l i ≡ true
        pinned_there e = ap (has_one (pinned c) l) e ∙ (held_labels c xs inside l labels).1 h

        go : (t : Bool) → reached c xs l i ≡ t → reached c xs l i ≡ false
        go false e = e
        go true e =
            let both = and_right (acts c xs i) _ e in
            let on = pinned_there (seed_only c.form c l i f one (and_left (reached_by c.form c.mode c.seed l i) _ both)) in
            never (rw on at (and_right (reached_by c.form c.mode c.seed l i) (not (held c l i)) both))
