-- A task's parts of the inputs, and its areas of the outputs.
use Rattle.std.specs.Prelude.{ℕ, ◌+◌, ◌-◌, ◌*◌, ◌≡◌, refl, ◌⊎◌, ◌≢◌, true, false, List, length, take, drop, ℤ, Float}
use Rattle.std.proofs.Common.{sym, ◌∙◌, subst, inl, inr}
use Rattle.paper.specs.declared.Keeps.{Keeps}
use Rattle.paper.specs.declared.Task.{Task}
use Rattle.paper.specs.Answer.Cases.{Answer, Answer.Refused, Answer.Idle, Answer.Held, Answer.Moved}
use Rattle.paper.specs.Panel.Input.{Lattice, Call, Choices, Buffers}
use Rattle.paper.specs.Panel.Takes.{keeps_by, grows_by, labels_by, takes_grey_labels, entries, choice_bytes}
use Rattle.paper.specs.Refusal.Kept.{Valid}
use Rattle.paper.specs.Answer.Move.{Seen, Answers}
use Rattle.paper.specs.Answer.Task.{Sweep, part, group_of, task_call, task_choices, areas}
use Rattle.paper.specs.Answer.Sweep.{common, Unwritten}
use Rattle.paper.specs.Panel.Made.{lattice_of, call_of, choices_of, buffers_of}
use Rattle.paper.specs.Answer.Totals.{TotalsReady, TotalsAfter}
use Rattle.paper.specs.Answer.Made.{plan_of}
use Rattle.laws.specs.Forms.{by_form, labels_else, grows_else}
use Rattle.laws.specs.Determined.{buffers_equal}
use Rattle.tasks.specs.Plan.{Bounding, task_at}
use Rattle.tasks.specs.Parts.{back, lent_part, lent_length, back_length, back_own, back_other, back_same}
use Rattle.perform.specs.Spinning.{length_after}
use Rattle.sweep_tasks.specs.Ascending.{Steps, unwritten_none}

-- these inputs are the task's
pub record Parts (keeps : Keeps) (w : Sweep) (k : ℕ) (t : Task) (cs : List Float) (ps gs : List ℕ) : Type 0 where
  pub task : t ≡ task_at (plan_of keeps w) w.order w.temperatures w.references w.seeds k
  pub cuts : cs ≡ part k (w.lattice.n * w.lattice.d) w.cuts
  pub choices : ps ≡ part k (choice_bytes w.mode w.form w.lattice.n w.members) w.choices
  pub greys : gs ≡ part k (entries w.form w.lattice.n) w.greys

module _ {keeps : Keeps} {w : Sweep} {k : ℕ} {t : Task} {cs : List Float} {ps gs : List ℕ} (e : Parts keeps w k t cs ps gs) where
  abbrev call_with : Call
  call_with = call_of t w.lattice.fwd w.lattice.bwd w.pins w.lattice.couplings cs

  pub valid_parts : {x : Buffers} → Valid (task_call w k) (task_choices w k) x → Valid call_with (choices_of ps gs) x
  valid_parts v = rw (e.task, e.cuts, e.choices, e.greys) v

  pub answers_parts : (x y : Buffers) (r : Answer) → Answers call_with (choices_of ps gs) x r y → Answers (task_call w k) (task_choices w k) x r y
  answers_parts x y r h = rw (e.task, e.cuts, e.choices, e.greys) at h

  abbrev lattice_with : Lattice
  lattice_with = lattice_of t.n t.d t.s w.lattice.fwd w.lattice.bwd w.lattice.couplings

  pub ready_parts :
      {ts : List ℤ} → TotalsReady (keeps_by keeps w.form) w.lattice (group_of w k) ts
      → TotalsReady (keeps_by t.keeps t.form) lattice_with t.group ts
  ready_parts h = rw e.task h

  pub totals_parts :
      (xs ts ys us : List ℤ) → TotalsAfter (keeps_by t.keeps t.form) lattice_with xs ts ys us
      → TotalsAfter (keeps_by keeps w.form) w.lattice xs ts ys us
  totals_parts xs ts ys us h = rw e.task at h

-- ---- what the form does not write
seen_unwritten : (c : Call) (b b' : Buffers) → Seen c b b' → Unwritten c b b'
seen_unwritten c b b' s = record {
  labels = λ e. (s.one (grows_else c.form e)).labels_kept;
  grey_labels = grey (by_form c.form);
  counts = λ e. (s.one (grows_else c.form e)).counts_kept;
  sizes = λ e. (s.one (grows_else c.form e)).sizes_kept;
  members = λ e. (s.all (labels_else c.form e)).members_kept;
  found = λ e. (s.one (grows_else c.form e)).found_kept;
  grey_found = grey_found (by_form c.form);
}
  where
    grey : (labels_by c.form ≡ true) ⊎ (grows_by c.form ≡ true) → takes_grey_labels c ≡ false → b'.grey_labels ≡ b.grey_labels
    grey (inl f) e = (s.all f).grey_kept (rw f at e)
    grey (inr f) e = (s.one f).grey_kept

    grey_found : (labels_by c.form ≡ true) ⊎ (grows_by c.form ≡ true) → takes_grey_labels c ≡ false → b'.grey_found ≡ b.grey_found
    grey_found (inl f) e = (s.all f).grey_found_kept (rw f at e)
    grey_found (inr f) e = (s.one f).grey_found_kept

unwritten : (c : Call) (p : Choices) (b b' : Buffers) (a : Answer) → Answers c p b a b' → Unwritten c b b'
unwritten c p b b' (Refused r) w = subst (Unwritten c b) (sym w.kept) (unwritten_none c b)
unwritten c p b b' Idle w = seen_unwritten c b b' w.seen
unwritten c p b b' Held w = seen_unwritten c b b' w.seen
unwritten c p b b' Moved w = seen_unwritten c b b' w.seen

-- ---- the task's areas, lent and put back
module _ (xs : List ℕ) (k m : ℕ) {a e : ℕ} (h : Bounding (length xs) k m a e) (ys : List ℕ) (q : length ys ≡ length (take (e - a) (drop a xs))) where
  pub part_long : length ys ≡ e - a
  part_long = q ∙ lent_length xs k m a e h

  pub put_long : length (back xs a e ys) ≡ length xs
  put_long = back_length xs k m a e h ys part_long

module _
    (w : Sweep) (k : ℕ) (b : Buffers) {la lb ga gb ca cb za zb ma mb fa fb va vb : ℕ} (hl : Bounding (length b.labels) k w.lattice.n la lb)
    (hg : Bounding (length b.grey_labels) k w.lattice.n ga gb) (hc : Bounding (length b.counts) k (w.lattice.n + 1) ca cb)
    (hz : Bounding (length b.sizes) k 4 za zb) (hm : Bounding (length b.members) k w.lattice.n ma mb)
    (hf : Bounding (length b.found) k 1 fa fb) (hv : Bounding (length b.grey_found) k 1 va vb)
  where
    abbrev n : ℕ
    n = w.lattice.n

    abbrev pub lent_areas : Buffers
    lent_areas =
        buffers_of b.spins (take (lb - la) (drop la b.labels)) (take (gb - ga) (drop ga b.grey_labels)) (take (cb - ca) (drop ca b.counts))
        (take (zb - za) (drop za b.sizes)) (take (mb - ma) (drop ma b.members)) (take (fb - fa) (drop fa b.found))
        (take (vb - va) (drop va b.grey_found))

    pub areas_lent : areas w b b.spins k ≡ lent_areas
    areas_lent =
        buffers_equal _ _ refl (sym (lent_part b.labels k n la lb hl)) (sym (lent_part b.grey_labels k n ga gb hg))
        (sym (lent_part b.counts k (n + 1) ca cb hc)) (sym (lent_part b.sizes k 4 za zb hz)) (sym (lent_part b.members k n ma mb hm))
        (sym (lent_part b.found k 1 fa fb hf)) (sym (lent_part b.grey_found k 1 va vb hv))

    module _
        (xs : List ℤ) (ls gs cs zs ms fs vs : List ℕ) (kl : length ls ≡ length lent_areas.labels) (kg : length gs ≡ length lent_areas.grey_labels)
        (kc : length cs ≡ length lent_areas.counts) (kz : length zs ≡ length lent_areas.sizes) (km : length ms ≡ length lent_areas.members)
        (kf : length fs ≡ length lent_areas.found) (kv : length vs ≡ length lent_areas.grey_found)
        (r : Answer) (h : Answers (task_call w k) (task_choices w k) lent_areas r (buffers_of xs ls gs cs zs ms fs vs))
      where
        el : length ls ≡ lb - la
        el = part_long b.labels k n hl ls kl

        eg : length gs ≡ gb - ga
        eg = part_long b.grey_labels k n hg gs kg

        ec : length cs ≡ cb - ca
        ec = part_long b.counts k (n + 1) hc cs kc

        ez : length zs ≡ zb - za
        ez = part_long b.sizes k 4 hz zs kz

        em : length ms ≡ mb - ma
        em = part_long b.members k n hm ms km

        ef : length fs ≡ fb - fa
        ef = part_long b.found k 1 hf fs kf

        ev : length vs ≡ vb - va
        ev = part_long b.grey_found k 1 hv vs kv

        abbrev put : Buffers
        put =
            buffers_of xs (back b.labels la lb ls) (back b.grey_labels ga gb gs) (back b.counts ca cb cs) (back b.sizes za zb zs)
            (back b.members ma mb ms) (back b.found fa fb fs) (back b.grey_found va vb vs)

        areas_put : areas w put xs k ≡ buffers_of xs ls gs cs zs ms fs vs
        areas_put =
            buffers_equal _ _ refl (back_own b.labels k n la lb hl ls el) (back_own b.grey_labels k n ga gb hg gs eg)
            (back_own b.counts k (n + 1) ca cb hc cs ec) (back_own b.sizes k 4 za zb hz zs ez) (back_own b.members k n ma mb hm ms em)
            (back_own b.found k 1 fa fb hf fs ef) (back_own b.grey_found k 1 va vb hv vs ev)

        areas_apart : (j : ℕ) → j ≢ k → areas w put b.spins j ≡ areas w b b.spins j
        areas_apart j ne =
            buffers_equal _ _ refl (back_other b.labels k n la lb hl ls el 0 j ne) (back_other b.grey_labels k n ga gb hg gs eg 0 j ne)
            (back_other b.counts k (n + 1) ca cb hc cs ec 0 j ne) (back_other b.sizes k 4 za zb hz zs ez 0 j ne)
            (back_other b.members k n ma mb hm ms em 0 j ne) (back_other b.found k 1 fa fb hf fs ef 0 j ne)
            (back_other b.grey_found k 1 va vb hv vs ev 0 j ne)

        put_kept : Unwritten (task_call w k) lent_areas (buffers_of xs ls gs cs zs ms fs vs) → Unwritten (common w) b put
        put_kept u = record {
          labels = λ e. back_same b.labels k n la lb hl ls el (u.labels e ∙ lent_part b.labels k n la lb hl);
          grey_labels = λ e. back_same b.grey_labels k n ga gb hg gs eg (u.grey_labels e ∙ lent_part b.grey_labels k n ga gb hg);
          counts = λ e. back_same b.counts k (n + 1) ca cb hc cs ec (u.counts e ∙ lent_part b.counts k (n + 1) ca cb hc);
          sizes = λ e. back_same b.sizes k 4 za zb hz zs ez (u.sizes e ∙ lent_part b.sizes k 4 za zb hz);
          members = λ e. back_same b.members k n ma mb hm ms em (u.members e ∙ lent_part b.members k n ma mb hm);
          found = λ e. back_same b.found k 1 fa fb hf fs ef (u.found e ∙ lent_part b.found k 1 fa fb hf);
          grey_found = λ e. back_same b.grey_found k 1 va vb hv vs ev (u.grey_found e ∙ lent_part b.grey_found k 1 va vb hv);
        }

        pub steps_put : Steps w k b r put
        steps_put = record {
          answers = rw (areas_lent, areas_put) h;
          lengths = record {
            spins = length_after (task_call w k) (task_choices w k) lent_areas (buffers_of xs ls gs cs zs ms fs vs) r h;
            labels = put_long b.labels k n hl ls kl;
            counts = put_long b.counts k (n + 1) hc cs kc;
            sizes = put_long b.sizes k 4 hz zs kz;
            grey_labels = put_long b.grey_labels k n hg gs kg;
            members = put_long b.members k n hm ms km;
            found = put_long b.found k 1 hf fs kf;
            grey_found = put_long b.grey_found k 1 hv vs kv;
          };
          apart = areas_apart;
          kept = put_kept (unwritten (task_call w k) (task_choices w k) lent_areas (buffers_of xs ls gs cs zs ms fs vs) r h);
        }
