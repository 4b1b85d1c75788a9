-- `lengths_ok` meets its contract: one test for each length.
use Prim.Native.Nat.{ℕ, ◌*◌}
use mathlib.Core.Path.{◌≡◌, refl, ap, ◌∙◌}
use mathlib.Core.Bool.{Bool, not, ◌&&◌}
use Rattle.lemmas.specs.Tells.{same, both, test_eq}
use Rattle.paper.specs.Panel.Takes.{grows_by, labels_by, entries, draws_bonds, choices_by, greys_by, grey_labels_by, choice_width}
use Rattle.tests.specs.Lengths.{FitsEach, took}
use Rattle.tests.proofs.panel.lengths_ok.Goals as goal

pub returns : goal.returns
returns c =
    let rows : ℕ = c.entries-rows.result in
    let rows_of : rows ≡ entries c.args.form c.args.n = c.entries-rows.ensures in
    let drawn : c.is_drawn-drawn.result ≡ draws_bonds c.args.mode = c.is_drawn-drawn.ensures in
    let by-choices : c.takes_choices-choices.result ≡ choices_by c.args.mode c.args.form = c.takes_choices-choices.ensures in
    let width : ℕ = c.choice_width-width.result in
    let width_of : width ≡ choice_width c.args.mode c.args.m = c.choice_width-width.ensures in
    let by-greys : c.takes_greys-greys.result ≡ greys_by c.args.mode c.args.form = c.takes_greys-greys.ensures in
    let grows : c.grows-grows.result ≡ grows_by c.args.form = c.grows-grows.ensures in
    let labels : not c.grows-grows.result ≡ labels_by c.args.form = ap not grows in
    let grey_labels : (not c.grows-grows.result && c.takes_greys-greys.result) ≡ grey_labels_by c.args.mode c.args.form = ap (λ (x : Bool). not x && c.takes_greys-greys.result) grows
    ∙ ap (λ (x : Bool). labels_by c.args.form && x) by-greys in
    let a = c.args in
    let l = a.l in
    (same (FitsEach a.mode a.form a.n a.d a.s a.m a.count l)
    (λ h. record {
      spins = h.0.0.0.0.0.0.0.0.0.0.0.0.0.0;
      fwd = h.0.0.0.0.0.0.0.0.0.0.0.0.0.1;
      bwd = h.0.0.0.0.0.0.0.0.0.0.0.0.1;
      pins = h.0.0.0.0.0.0.0.0.0.0.0.1;
      couplings = h.0.0.0.0.0.0.0.0.0.0.1;
      cuts = h.0.0.0.0.0.0.0.0.0.1;
      choices = h.0.0.0.0.0.0.0.0.1;
      greys = h.0.0.0.0.0.0.0.1;
      labels = h.0.0.0.0.0.0.1;
      grey_labels = h.0.0.0.0.0.1;
      counts = h.0.0.0.0.1;
      sizes = h.0.0.0.1;
      members = h.0.0.1;
      found = h.0.1;
      grey_found = h.1;
    })
    (λ z. (
      (
        (
          (
            ((((((((((z.spins, z.fwd), z.bwd), z.pins), z.couplings), z.cuts), z.choices), z.greys), z.labels), z.grey_labels), z.counts),
            z.sizes,
          ),
          z.members,
        ),
        z.found,
      ),
      z.grey_found,
    ))
    (both (both (both (both (both (both (both (both (both (both (both (both (both (both
    (test_eq l.spins (a.s * a.n))
    (test_eq l.fwd (a.n * a.d)))
    (test_eq l.bwd (a.n * a.d)))
    (test_eq l.pins a.n))
    (took drawn refl c.fits.ensures))
    (took drawn refl c.fits-2.ensures))
    (took by-choices (ap (λ (x : ℕ). a.count * (x * width)) rows_of
    ∙ ap (λ (x : ℕ). a.count * (entries a.form a.n * x)) width_of) c.fits-3.ensures))
    (took by-greys (ap (λ (x : ℕ). a.count * x) rows_of) c.fits-4.ensures))
    (took labels refl c.fits-5.ensures))
    (took grey_labels refl c.fits-6.ensures))
    (took labels refl c.fits-7.ensures))
    (took labels refl c.fits-8.ensures))
    (took grows refl c.fits-9.ensures))
    (took labels refl c.fits-10.ensures))
    (took grey_labels refl c.fits-11.ensures))
    ).says
