-- Where a move leaves a site's pattern: no site acts, the one component is held, or the site is no member.
use Rattle.std.specs.Prelude.{ℕ, ◌<◌, ◌≡◌, ◌⊎◌, Bool, ◌&&◌, List, get_or, ℤ}
use Rattle.std.proofs.Math.Path.{refl}
use Rattle.std.proofs.Common.{sym, ◌∙◌, inl, inr, eq-eqb, eqb-true}
use Rattle.std.proofs.Math.Bool.{true, false, not}
use Rattle.lemmas.specs.Bools.{never, and_no, and_right, or_right}
use Rattle.paper.specs.declared.Form.{Form}
use Rattle.paper.specs.declared.Form.TheVariants.{Sw, Wolff, Observe, Grow}
use Rattle.paper.specs.declared.Mode.{Mode}
use Rattle.paper.specs.Answer.Cases.{Answer}
use Rattle.paper.specs.Panel.Input.{Call, Choices, Buffers, pattern, pinned}
use Rattle.paper.specs.Panel.Takes.{is_cmr, one_cluster, grows_by, labels_by, moves, takes_greys}
use Rattle.paper.specs.Site.Acting.{acts, SomeActs, NoneActs}
use Rattle.paper.specs.Component.Sizes.{label_of}
use Rattle.paper.specs.Move.Moving.{reached_by, has_one, held, reached, final}
use Rattle.laws.specs.Forms.{by_form}
use Rattle.laws.specs.Holding.{one_has, held_labels, held_members}
use Rattle.laws.specs.HeldStill.{grey_held_too}
use Rattle.task_steps.specs.Label.{SaysHeld, LabelAccepts}
use Rattle.task_steps.specs.Choose.{Found, first_of, second_of, has_column}
use Rattle.task_steps.specs.Found.{left_by, valid_by, first_plain, first_labelled, second_grown, second_labelled, joined_grey, labels_by_lem, grey_labels_by}
use Rattle.task_steps.specs.Found.{first_members, grey_members}

-- ---- reached by neither list
module _ (c : Call) (p : Choices) (xs : List ℤ) (l g : List ℕ) (i : ℕ) where
  pub unmoved : reached c xs l i ≡ false → (takes_greys c ≡ true → reached c xs g i ≡ false) → (k : ℕ) → final c p xs l g i k ≡ pattern c xs i k
  unfolding final
  unmoved first second k = go (takes_greys c) refl
    where
      go : (t : Bool) → takes_greys c ≡ t → final c p xs l g i k ≡ pattern c xs i k
      go true e = rw (e, second e, first) refl
      go false e = rw (e, first) refl

module _ (c : Call) (xs : List ℤ) (l : List ℕ) (i : ℕ) where
  idle_unreached : acts c xs i ≡ false → reached c xs l i ≡ false
  unfolding reached
  idle_unreached e = rw e refl

  -- by its form a site's component would move, and then it is held
  held_unreached : (reached_by c.form c.mode c.seed l i ≡ true → held c l i ≡ true) → reached c xs l i ≡ false
  unfolding reached
  held_unreached h = rw (go (reached_by c.form c.mode c.seed l i) h) (and_no (acts c xs i))
    where
      go : (t : Bool) → (t ≡ true → held c l i ≡ true) → (t && not (held c l i)) ≡ false
      go true h = rw (h refl) refl
      go false h = refl

-- ---- what the forms of one cluster reach
seed_reached : (f : Form) (m : Mode) (s : ℕ) (l : List ℕ) (i : ℕ) → labels_by f ≡ true → one_cluster f ≡ true → reached_by f m s l i ≡ true
    → label_of l i ≡ label_of l s
seed_reached Sw m s l i a o e = never o
seed_reached Wolff m s l i a o e = eqb-true _ _ e
seed_reached Observe m s l i a o e = never o
seed_reached Grow m s l i a o e = never a

grown_reached : (f : Form) (m : Mode) (s : ℕ) (l : List ℕ) (i : ℕ) → grows_by f ≡ true → reached_by f m s l i ≡ true → label_of l i ≡ 1
grown_reached Sw m s l i g e = never g
grown_reached Wolff m s l i g e = never g
grown_reached Observe m s l i g e = never g
grown_reached Grow m s l i g e = eqb-true _ _ e

module _ (c : Call) (xs : List ℤ) (l : List ℕ) (i : ℕ) where
  seed_held : labels_by c.form ≡ true → one_cluster c.form ≡ true → held c l c.seed ≡ true → reached c xs l i ≡ false
  seed_held a o h =
      held_unreached c xs l i (λ e. rw (seed_reached c.form c.mode c.seed l i a o e) h)

  grown_held : grows_by c.form ≡ true → has_one (pinned c) l 1 ≡ true → reached c xs l i ≡ false
  grown_held g h = held_unreached c xs l i (λ e. rw (grown_reached c.form c.mode c.seed l i g e) h)

  grown_out : grows_by c.form ≡ true → (label_of l i ≡ 1 → ⊥) → reached c xs l i ≡ false
  grown_out g o = held_unreached c xs l i (λ e. absurd (o (grown_reached c.form c.mode c.seed l i g e)))

module _ {c : Call} {p : Choices} {b b₁ : Buffers} {blue blue₁ : List ℕ} {a : Answer} (w : LabelAccepts c p b blue a b₁ blue₁) where
  abbrev f : Found
  f = left_by b₁ blue₁

  abbrev xs : List ℤ
  xs = b.spins

  cmr_by : takes_greys c ≡ true → is_cmr c.mode ≡ true
  cmr_by e = and_right (moves c.form) _ e

  -- held: neither list reaches any site
  module _ (h : SaysHeld c xs) (i : ℕ) where
    inside : c.seed < c.lattice.n
    inside = (valid_by w).fit.seeded.below h.one

    labels_held : labels_by c.form ≡ true → held c b₁.labels c.seed ≡ true
    labels_held l = (held_labels c xs inside b₁.labels (labels_by_lem w l)).1 h.held

    first_held : reached c xs (first_of c f) i ≡ false
    first_held = go (by_form c.form)
      where
        go : (labels_by c.form ≡ true) ⊎ (grows_by c.form ≡ true) → reached c xs (first_of c f) i ≡ false
        go (inl l) = rw (first_labelled c f l) (seed_held c xs b₁.labels i l h.one (labels_held l))
        go (inr g) = grown_held c xs (first_of c f) i g ((held_members c xs inside (first_of c f) (first_members w g h.some)).1 h.held)

    grey_held : grows_by c.form ≡ true → takes_greys c ≡ true → has_one (pinned c) b₁.members 1 ≡ true
    grey_held g e =
        let m = grey_members w g h.some (cmr_by e) in
        let s = h.held in
        one_has (pinned c) b₁.members 1 (record {
          site = s.site;
          below = rw m.long s.below;
          label = m.marked s.site s.below (joined_grey c xs (cmr_by e) s.joined);
          marked = s.pin;
        })

    second_held : takes_greys c ≡ true → reached c xs (second_of c f) i ≡ false
    second_held e = go (by_form c.form)
      where
        go : (labels_by c.form ≡ true) ⊎ (grows_by c.form ≡ true) → reached c xs (second_of c f) i ≡ false
        go (inl l) =
            rw (second_labelled c f l)
            (seed_held c xs b₁.grey_labels i l h.one
            (grey_held_too c xs (cmr_by e) b₁.labels b₁.grey_labels (labels_by_lem w l) (grey_labels_by w l e) c.seed inside (labels_held l)))
        go (inr g) = rw (second_grown c f g) (grown_held c xs b₁.members i g (grey_held g e))

  -- of one that is not held, no member
  module _ (s : SomeActs c xs) (g : grows_by c.form ≡ true) (i : ℕ) (hi : i < c.lattice.n) (out : get_or b₁.members i 0 ≡ 1 → ⊥) where
    first_out : reached c xs (first_of c f) i ≡ false
    first_out = grown_out c xs (first_of c f) i g (λ e. out (go (is_cmr c.mode) refl e))
      where
        go : (t : Bool) → is_cmr c.mode ≡ t → label_of (first_of c f) i ≡ 1 → get_or b₁.members i 0 ≡ 1
        go true q e = (grey_members w g s q).marked i hi (joined_grey c xs q ((first_members w g s).joined i hi e))
        go false q e = rw (first_plain c f g q) at e

    second_out : reached c xs (second_of c f) i ≡ false
    second_out = rw (second_grown c f g) (grown_out c xs b₁.members i g out)

  -- so the pattern is as it was
  abbrev StaysAt : ℕ → Type 0
  StaysAt i = (k : ℕ) → final c p xs (first_of c f) (second_of c f) i k ≡ pattern c xs i k

  pub idle_kept : NoneActs c xs → (i : ℕ) → i < c.lattice.n → StaysAt i
  idle_kept h i hi =
      unmoved c p xs (first_of c f) (second_of c f) i (idle_unreached c xs (first_of c f) i (h i hi)) (λ _. idle_unreached c xs (second_of c f) i (h i hi))

  pub held_kept : SaysHeld c xs → (i : ℕ) → StaysAt i
  held_kept h i = unmoved c p xs (first_of c f) (second_of c f) i (first_held h i) (second_held h i)

  pub out_kept : SomeActs c xs → (i : ℕ) → i < c.lattice.n → has_column c.form b₁.members i ≡ false → StaysAt i
  out_kept s i hi e = go (by_form c.form)
    where
      go : (labels_by c.form ≡ true) ⊎ (grows_by c.form ≡ true) → StaysAt i
      go (inl l) = never (sym e ∙ rw l refl)
      go (inr g) =
          let out : get_or b₁.members i 0 ≡ 1 → ⊥ = λ q. never (sym e ∙ or_right (labels_by c.form) _ (eq-eqb _ _ q)) in
          unmoved c p xs (first_of c f) (second_of c f) i (first_out s g i hi out) (λ _. second_out s g i hi out)
