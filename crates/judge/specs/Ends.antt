-- A bond judged from the columns of its two ends is the bond judged from the patterns there, whichever end comes first.
use Rattle.std.specs.Prelude.{ℕ, ◌+◌, ◌*◌, ◌/◌, ◌<◌, ◌≡◌, refl, Bool, true, false, not, cond, ◌&&◌, List, ℤ, pos, negsuc, nat_abs, ◌*ℤ◌, Float}
use Rattle.std.proofs.Common.{sym, ◌∙◌, ap, arith}
use Rattle.std.proofs.Math.IntN.{one, *ℤ-one, *ℤ_comm}
use Rattle.std.specs.Int.Signed.{lt_z}
use Rattle.lemmas.specs.Ints.{eq_z, same_is, is_same}
use Rattle.lemmas.specs.Sums.{sum_ext}
use Rattle.paper.specs.declared.Task.{Task}
use Rattle.paper.specs.declared.Sampler.{Sampler}
use Rattle.paper.specs.declared.BondKind.{BondKind}
use Rattle.paper.specs.declared.BondKind.TheVariants.{None, Blue, Red}
use Rattle.paper.specs.Panel.Input.{Pattern}
use Rattle.paper.specs.Panel.Takes.{is_cmr, is_drawn}
use Rattle.paper.specs.Site.Bonds.{sampler_of, whole, drawn, pick, pair_term, kind_of, jorg_holds, blue_holds, grey_holds}
use Rattle.laws.specs.Local.{Agree, kind_ext}
use Rattle.columns.specs.Column.{bit_of, sign, shown, column_of, shown_column}
use Rattle.column_rules.specs.Sight.{column_acts_lem}
use Rattle.bonds.specs.Laws.{jorg_ext}
use Rattle.judge.specs.declared.Rule.{Rule}
use Rattle.judge.specs.Judged.{Ready, Judgeable, column_acts, coupling_of, cut_of, end_at, judged}
use Rattle.judge.specs.Drawn.{drawn_by, judged_on, acts_judged, drawn_judged}

-- ---- the two ends may be exchanged
either : (p q : Bool) → (p && q) ≡ (q && p)
either true true = refl
either true false = refl
either false true = refl
either false false = refl

sym_test : (a b : ℤ) → eq_z a b ≡ eq_z b a
sym_test a b = go (eq_z a b) (eq_z b a) refl refl
  where
    go : (s t : Bool) → eq_z a b ≡ s → eq_z b a ≡ t → s ≡ t
    go true t p q = sym (same_is b a (sym (is_same a b p))) ∙ q
    go false true p q = sym p ∙ same_is a b (sym (is_same b a q))
    go false false p q = refl

aligned : (j : ℤ) (p q : Bool) → j *ℤ sign p *ℤ sign q ≡ j *ℤ sign q *ℤ sign p
unfolding one
aligned j true true = refl
aligned j true false = ap (λ (z : ℤ). z *ℤ negsuc 0) (*ℤ-one j) ∙ sym (*ℤ-one (j *ℤ negsuc 0))
aligned j false true = *ℤ-one (j *ℤ negsuc 0) ∙ sym (ap (λ (z : ℤ). z *ℤ negsuc 0) (*ℤ-one j))
aligned j false false = refl

kind_turned : (j : ℤ) (a b : ℕ) → kind_of j (shown a) (shown b) ≡ kind_of j (shown b) (shown a)
kind_turned j a b =
    λ i. pick (sym_test (shown a 0 *ℤ shown a 1) (shown b 0 *ℤ shown b 1) i)
    (pick (lt_z (pos 0) (aligned j (bit_of a 0) (bit_of b 0) i)) (Blue (whole (nat_abs j))) None)
    (pick (eq_z j (pos 0)) None (Red (whole (nat_abs j))))

term_turned : (f g : Pattern) (k : ℕ) → pair_term f g k ≡ pair_term g f k
term_turned f g k =
    λ i. cond (either (not (eq_z (f (2 * k)) (f (2 * k + 1)))) (not (eq_z (g (2 * k)) (g (2 * k + 1)))) i)
    (*ℤ_comm (f (2 * k)) (g (2 * k)) i)
    (pos 0)

jorg_turned : (j : ℤ) (m : ℕ) (f g : Pattern) (s : Sampler) (cut : Float) → jorg_holds j m f g s cut ≡ jorg_holds j m g f s cut
jorg_turned j m f g s cut =
    ap (λ (z : ℤ). lt_z (pos 0) (j *ℤ z) && drawn s.four (whole (nat_abs (j *ℤ z))) cut)
    (sum_ext (m / 2) (pair_term f g) (pair_term g f) (λ k h. term_turned f g k))

drawn_turned :
    (cmr grey : Bool) (t : Task) (s : Sampler) (a b : ℕ) (j : ℤ) (cut : Float)
    → drawn_by cmr grey t s (shown a) (shown b) j cut ≡ drawn_by cmr grey t s (shown b) (shown a) j cut
drawn_turned true true t s a b j cut = ap (λ (k : BondKind). grey_holds k s cut) (kind_turned j a b)
drawn_turned true false t s a b j cut = ap (λ (k : BondKind). blue_holds k s cut) (kind_turned j a b)
drawn_turned false grey t s a b j cut = jorg_turned j t.group.len (shown a) (shown b) s cut

pub judged_turned : (r : Rule) (js : List ℤ) (cuts : List Float) (i e a b : ℕ) → judged_on r js cuts i e a b ≡ judged_on r js cuts i e b a
judged_turned r js cuts i e a b =
    λ k. cond (is_drawn r.task.mode)
    (drawn_turned (is_cmr r.task.mode) r.grey r.task r.sampler a b (coupling_of r.task js i e) (cut_of r.task cuts i e) k)
    (either (column_acts r a) (column_acts r b) k)

-- ---- columns show the patterns
pub judgeable : {r : Rule} {xs js : List ℤ} {cuts : List Float} → Ready r xs js cuts → Judgeable r.task js cuts
judgeable h = record {
  sites = h.growable.panel.n_high;
  directions = h.growable.directions;
  few = h.growable.panel.size_high;
  coupled = h.growable.coupled;
}

module _
    {r : Rule} {xs js : List ℤ} {cuts : List Float} (ready : Ready r xs js cuts) (e : ℕ) {i j a b : ℕ} (hi : i < r.task.n) (hj : j < r.task.n)
    (ea : a ≡ column_of r.task.group.len (end_at r.task xs i)) (eb : b ≡ column_of r.task.group.len (end_at r.task xs j))
  where
    shows : (x c : ℕ) → x < r.task.n → c ≡ column_of r.task.group.len (end_at r.task xs x)
        → Agree r.task.group.len (shown c) (end_at r.task xs x)
    shows x c hx q k hk = rw q (shown_column r.task.group.len (end_at r.task xs x) k hk (ready.growable.panel.spins x k hx hk))

    kind_seen : (z : ℤ) → is_cmr r.task.mode ≡ true → kind_of z (shown a) (shown b) ≡ kind_of z (end_at r.task xs i) (end_at r.task xs j)
    kind_seen z q =
        kind_ext z (shown a) (shown b) (end_at r.task xs i) (end_at r.task xs j)
        (λ k hk. shows i a hi ea k (omega (arith, ready.growable.two q))) (λ k hk. shows j b hj eb k (omega (arith, ready.growable.two q)))

    drawn_seen :
        (cmr grey : Bool) (z : ℤ) (cut : Float) → is_cmr r.task.mode ≡ cmr
        → drawn_by cmr grey r.task r.sampler (shown a) (shown b) z cut
        ≡ drawn_by cmr grey r.task (sampler_of r.task.temperature) (end_at r.task xs i) (end_at r.task xs j) z cut
    drawn_seen true true z cut q = λ k. grey_holds (kind_seen z q k) (ready.prepared.sampler k) cut
    drawn_seen true false z cut q = λ k. blue_holds (kind_seen z q k) (ready.prepared.sampler k) cut
    drawn_seen false grey z cut q =
        (λ k. jorg_holds z r.task.group.len (shown a) (shown b) (ready.prepared.sampler k) cut)
        ∙ jorg_ext z r.task.group.len (shown a) (shown b) (end_at r.task xs i) (end_at r.task xs j) (sampler_of r.task.temperature) cut
        (shows i a hi ea) (shows j b hj eb)

    pub judged_columns : judged_on r js cuts i e a b ≡ judged r.task r.grey xs js cuts i e j
    judged_columns = go (is_drawn r.task.mode) refl
      where
        go : (d : Bool) → is_drawn r.task.mode ≡ d
            → cond d
            (drawn_by (is_cmr r.task.mode) r.grey r.task r.sampler (shown a) (shown b) (coupling_of r.task js i e) (cut_of r.task cuts i e))
            (column_acts r a && column_acts r b)
            ≡ judged r.task r.grey xs js cuts i e j
        go true q =
            drawn_seen (is_cmr r.task.mode) r.grey (coupling_of r.task js i e) (cut_of r.task cuts i e) refl
            ∙ drawn_judged r.task r.grey xs js cuts i e j q
        go false q =
            (λ k. column_acts_lem ready.growable.panel hi ea ready.prepared.gauge k
            && column_acts_lem ready.growable.panel hj eb ready.prepared.gauge k)
            ∙ acts_judged r.task r.grey xs js cuts i e j q
