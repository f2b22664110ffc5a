-- Workers play a round, meet, and stay manned.
use Rattle.std.proofs.Common.{◌≡◌, ℕ, zero, suc, ◌+◌, ◌<◌, All, List, [], ◌∷◌, map, length, ◌++◌, get_or, refl, sym, ap, ◌∙◌, subst, arith, append-nil}
use Rattle.std.specs.Arc.{arc_value}
use Rattle.std.proofs.lemmas.List.{drop_all, get_or-map, length-map, Elements.All-head, Elements.All-tail}
use Rattle.flash_rule.specs.declared.{facts.Name.TheVariants.Pass as APass, facts.Role.TheVariants.Player, view.View.View}
use Rattle.flash_table.specs.{declared.pass.Pass.Pass, Flash.view_of}
use Rattle.trace.specs.declared.commands.Command.{Command}
use Rattle.rounds.specs.{Lines.Said, Playing.Played, Answers.said_in}
use Rattle.volume.specs.declared.volume.Volume.{Volume}
use Rattle.workers.specs.declared.worker.{round_limits.RoundLimits.RoundLimits, Worker.Worker}
use Rattle.workers.specs.Meetings.{AreSeated, Rest, passes_of, rest_of}
use Rattle.workers.specs.Workers.{HasPlayed, IsIdle, answered, round_lines}
use Rattle.workers.specs.{Tasks.HavePlayed, Runs.AreManned, Playable.HasAnswered, Playable.added, Playable.lines_at}
use Rattle.workers.proofs.{PlayedLines.played_none, RoundMeetings.all_same_at}

-- as many workers come back as have played, each as its own
pub played_long : (n : RoundLimits) (workers back : List Worker) → HavePlayed n workers back → length back ≡ length workers
played_long n [] [] h = refl
played_long n [] (r ∷ back) h = absurd h
played_long n (p ∷ workers) [] h = absurd h
played_long n (p ∷ workers) (r ∷ back) h = ap suc (played_long n workers back h.1)

pub played_at : (n : RoundLimits) (workers back : List Worker) → HavePlayed n workers back → (k : ℕ) (p r : Worker) → k < length workers
    → HasPlayed n (get_or workers k p) (get_or back k r)
played_at n [] [] h k p r low = absurd (omega arith)
played_at n [] (y ∷ back) h k p r low = absurd h
played_at n (x ∷ workers) [] h k p r low = absurd h
played_at n (x ∷ workers) (y ∷ back) h zero p r low = h.0
played_at n (x ∷ workers) (y ∷ back) h (suc k) p r low = played_at n workers back h.1 k p r (omega arith)

-- the passes stay at their numbers where each keeps its own
pub seated_by : (ps qs : List Worker) → length qs ≡ length ps
    → ((k : ℕ) (p q : Worker) → k < length ps → (view_of (get_or ps k p).pass).role ≡ Player (APass k) → (view_of (get_or qs k q).pass).role ≡ Player (APass k))
    → AreSeated (passes_of ps) → AreSeated (passes_of qs)
seated_by [] [] long each seated t p low = absurd (omega arith)
seated_by [] (y ∷ qs) long each seated t p low = absurd (omega arith)
seated_by (x ∷ ps) [] long each seated t p low = absurd (omega arith)
seated_by (x ∷ ps) (y ∷ qs) long each seated t p low =
    let pass : Worker → Pass = λ (z : Worker). z.pass in
    let one = length-map (x ∷ ps) pass in
    let two = length-map (y ∷ qs) pass in
    let there : t < length (y ∷ qs) = omega (arith, two) in
    let inside : t < length (x ∷ ps) = omega (arith, long) in
    let old = ap (λ (z : Pass). (view_of z).role) (sym (get_or-map pass (x ∷ ps) t x p inside)) ∙ seated t p (omega (arith, one)) in
    ap (λ (z : Pass). (view_of z).role) (get_or-map pass (y ∷ qs) t y p there) ∙ each t x y inside old

pub role_played : (n : RoundLimits) (k : ℕ) (p r : Worker) → HasPlayed n p r → (view_of p.pass).role ≡ Player (APass k)
    → (view_of r.pass).role ≡ Player (APass k)
role_played n k p r h role = ap (λ (v : View). v.role) (h.played k role).changed ∙ role

module _ (volume : Volume) where
  pub manned_played : (n : RoundLimits) (ps qs : List Worker) → AreManned volume ps → HavePlayed n ps qs → AreManned volume qs
  manned_played n ps qs m h =
      let long = played_long n ps qs h in
      record {
        some = (let some = m.some in omega (arith, long));
        all = long ∙ m.all;
        at = λ k q low. let inside : k < length ps = omega (arith, long) in (played_at n ps qs h k q q inside).volume ∙ m.at k q inside;
        seated = seated_by ps qs long (λ k p q low role. role_played n k (get_or ps k p) (get_or qs k q) (played_at n ps qs h k p q low) role) m.seated;
      }

  pub rests_long : (ps qs : List Worker) → map rest_of qs ≡ map rest_of ps → length qs ≡ length ps
  rests_long ps qs same =
      let long = ap (length {A = Rest}) same in omega (arith, long, length-map ps rest_of, length-map qs rest_of)

  pub manned_met : (ps qs : List Worker) → AreManned volume ps → map rest_of qs ≡ map rest_of ps → AreSeated (passes_of qs) → AreManned volume qs
  manned_met ps qs m same seated =
      let long = rests_long ps qs same in
      record { some = (let some = m.some in omega (arith, long)); all = long ∙ m.all; at = all_same_at volume ps qs same m.at; seated = seated }

  pub rest_at : (ps qs : List Worker) → map rest_of qs ≡ map rest_of ps → (k : ℕ) (p : Worker) → k < length ps
      → rest_of (get_or qs k p) ≡ rest_of (get_or ps k p)
  rest_at ps qs same k p low =
      let there : k < length qs = omega (arith, rests_long ps qs same) in
      sym (get_or-map rest_of qs k p (rest_of p) there) ∙ (ap (λ l. get_or l k (rest_of p)) same ∙ get_or-map rest_of ps k p (rest_of p) low)

-- a worker without a line in the round has played it as it is
pub idle_played : (n : RoundLimits) (p : Worker) → IsIdle n.end p → HasPlayed n p p
idle_played n p idle =
    let lines : [] ≡ round_lines n.end p = ap (lines_at (arc_value p.commands)) (sym idle) in
    let nothing : added p.answers p.answers ≡ [] = drop_all (answered p) (said_in p.answers) (omega arith) in
    record {
      volume = refl;
      commands = refl;
      places = refl;
      answers = subst (λ l. HasAnswered l p.answers p.answers) lines (record {
        kept = sym (ap (λ l. said_in p.answers ++ l) nothing ∙ append-nil (said_in p.answers));
        count = omega arith;
        page = refl;
        space = λ rest space. space;
      });
      played = λ t role.
          subst (λ (x : List Command × List Said). Played t n.patience (view_of p.pass) x.0 x.1 (view_of p.pass)) (λ i. (lines i, sym nothing i))
          (played_none t n.patience (view_of p.pass));
    }

pub idles_played : (n : RoundLimits) (workers : List Worker) → All (IsIdle n.end) workers → HavePlayed n workers workers
idles_played n [] idle = tt
idles_played n (p ∷ workers) idle = (idle_played n p (All-head (IsIdle n.end) p workers idle), idles_played n workers (All-tail (IsIdle n.end) p workers idle))
