-- One line more: the histories, the calls, the programs and the counts grow by its own part.
use Rattle.std.proofs.Common.{◌≡◌, ℕ, ◌+◌, ◌<◌, ◌≤◌, Bool, List, [], ◌∷◌, ◌++◌, true, length, map, take, get_or, set, sym, refl, ap, ◌∙◌, subst, arith}
use Rattle.std.proofs.Common.{append_assoc, append-nil}
use Rattle.std.proofs.lemmas.List.{take_all, take_more, take_more_set, map_push, length-map, get_or-map, with_items_is}
use Rattle.std.proofs.lemmas.Option.{get_or_from_slice_get}
use Rattle.std.specs.{Prelude.None, Prelude.Some, Prelude.slice_get, Vec.with_items}
use mathlib.Core.Logic.{⊎_elim}
use Rattle.geometry.specs.{Sectors.Sector, Sectors.was_of, Geometry.page_bytes_of, History.Call, History.held, History.Begins}
use Rattle.trace.specs.declared.commands.{Op.Op, Command.Command}
use Rattle.geometry.proofs.Histories.{Begins-refl, Begins-trans}
use Rattle.flash_rule.specs.{declared.facts.Name.TheVariants.Pass as APass, declared.facts.Role.TheVariants.Player, declared.view.View.View, Views.is_pass}
use Rattle.flash_rule.proofs.Still.{pass_of}
use Rattle.flash_table.specs.{declared.pass.Pass.Pass, Flash.view_of, Flash.geometry_of}
use Rattle.host.specs.Ready.{IsReady}
use Rattle.volume.specs.{declared.volume.Volume.Volume, Volume.flash_of}
use Rattle.rounds.specs.declared.answer.{Answer.Answer, Kind.Kind}
use Rattle.rounds.specs.Lines.{Said, said, calls_made, kind_of, is_full, IsRight}
use Rattle.rounds.specs.Playing.{PlayAdds, Plays, Played, LineFound, LinesFound, calls_done, writes_done, one_done}
use Rattle.workers.specs.Playable.{PlayedLine, HasPlayedLine, HasPage, lines_at, no_line}
use Rattle.workers.proofs.OneLine.{adds_calls, adds_then}
use Rattle.trace.specs.declared.commands.Op.TheVariants as op
use Rattle.rounds.specs.declared.answer.Kind.TheVariants as kind

-- the lines have as many answers, and one more of each
module _ (n t : ℕ) (c : Command) (a : Said) where
  plays_more : (seen last final h : List Call) (lines : List Command) (answers : List Said) → Plays n t seen lines answers last → Begins last h
      → IsRight c.op (held n h c.sector) a.kind a.page
      → Begins (h ++ calls_made t c a) final → Plays n t seen (lines ++ c ∷ []) (answers ++ a ∷ []) final
  plays_more seen last final h [] [] plays later right ends = (h, Begins-trans seen last h plays later, right, ends)
  plays_more seen last final h [] (b ∷ answers) plays later right ends = absurd plays
  plays_more seen last final h (d ∷ lines) [] plays later right ends = absurd plays
  plays_more seen last final h (d ∷ lines) (b ∷ answers) plays later right ends =
      (plays.0, plays.1, plays.2, plays_more (plays.0 ++ calls_made t d b) last final h lines answers plays.3 later right ends)

  done_more : (seen last : List Call) (lines : List Command) (answers : List Said) → Plays n t seen lines answers last
      → calls_done t (lines ++ c ∷ []) (answers ++ a ∷ []) ≡ calls_done t lines answers ++ calls_made t c a
  done_more seen last [] [] plays = append-nil (calls_made t c a)
  done_more seen last [] (b ∷ answers) plays = absurd plays
  done_more seen last (d ∷ lines) [] plays = absurd plays
  done_more seen last (d ∷ lines) (b ∷ answers) plays =
      ap (λ rest. calls_made t d b ++ rest) (done_more (plays.0 ++ calls_made t d b) last lines answers plays.3)
      ∙ sym (append_assoc (calls_made t d b) (calls_done t lines answers) (calls_made t c a))

  writes_more : (seen last : List Call) (lines : List Command) (answers : List Said) → Plays n t seen lines answers last
      → writes_done (lines ++ c ∷ []) (answers ++ a ∷ []) ≡ writes_done lines answers + one_done c.op (is_full a.kind)
  writes_more seen last [] [] plays = omega arith
  writes_more seen last [] (b ∷ answers) plays = absurd plays
  writes_more seen last (d ∷ lines) [] plays = absurd plays
  writes_more seen last (d ∷ lines) (b ∷ answers) plays = let rest = writes_more (plays.0 ++ calls_made t d b) last lines answers plays.3 in omega (arith, rest)

-- the blocks that more lines have found taken
module _ (patience n : ℕ) (more : List Command) (others : List Said) (last : List ℕ) (found : LinesFound patience n more others last) where
  pub found-append : (lines : List Command) (answers : List Said) (first : List ℕ) → LinesFound patience n lines answers first
      → LinesFound patience n (lines ++ more) (answers ++ others) (first ++ last)
  found-append [] [] first none = subst (λ l. LinesFound patience n more others (l ++ last)) (sym none) found
  found-append [] (b ∷ answers) first before = absurd before
  found-append (d ∷ lines) [] first before = absurd before
  found-append (d ∷ lines) (b ∷ answers) first (one, rest, whole, line, behind) =
      (one, rest ++ last, ap (λ l. l ++ last) whole ∙ append_assoc one rest last, line, found-append lines answers rest behind)

-- one line more is played
pub played_more : (t patience : ℕ) (v u w : View) (lines : List Command) (answers : List Said) (c : Command) (a : Said) → Played t patience v lines answers u
    → PlayedLine t patience u c.op c.sector c.page a.kind a.page (is_full a.kind) w → Played t patience v (lines ++ c ∷ []) (answers ++ a ∷ []) w
played_more t patience v u w lines answers c a all line =
    let n = v.numbers.sectors in
    let same : u.numbers.sectors ≡ n = ap (λ (x : View). x.numbers.sectors) all.changed in
    let blocks : u.numbers.blocks ≡ v.numbers.blocks = ap (λ (x : View). x.numbers.blocks) all.changed in
    let find = λ (k l : List ℕ) (before : LinesFound patience v.numbers.blocks lines answers k)
    (here : LineFound patience u.numbers.blocks c.op (is_full a.kind) l).
    found-append patience v.numbers.blocks (c ∷ []) (a ∷ []) l
    (l, [], sym (append-nil l), subst (λ b. LineFound patience b c.op (is_full a.kind) l) blocks here, refl) lines answers k before in
    record {
      plays = plays_more n t c a v.seen u.seen w.seen line.history lines answers all.plays line.later
          (subst (λ k. IsRight c.op (held k line.history c.sector) a.kind a.page) same line.right) line.last;
      adds =
          subst (λ (x : List Call × ℕ). PlayAdds x.0 x.1 (LinesFound patience v.numbers.blocks (lines ++ c ∷ []) (answers ++ a ∷ [])) v w)
          (λ i. (sym (done_more n t c a v.seen u.seen lines answers all.plays) i, sym (writes_more n t c a v.seen u.seen lines answers all.plays) i))
          (adds_then v u w (calls_done t lines answers) (calls_made t c a) (writes_done lines answers) (one_done c.op (is_full a.kind)) _ _ _
          find all.adds line.adds);
    }

-- the first so many lines are played, with these answers
pub record Playing (volume : Volume) (patience : ℕ) (first : Pass) (lines : List Command) (i : ℕ) (now : Pass) (answers : List Said) : Type 0 where
  pub ready : IsReady (flash_of volume) now
  pub told : (t : ℕ) → (view_of first).role ≡ Player (APass t) → Played t patience (view_of first) (take i lines) answers (view_of now)

pub played_none : (t patience : ℕ) (v : View) → Played t patience v [] [] v
played_none t patience v = record { plays = Begins-refl v.seen; adds = adds_calls [] _ v v refl (sym (append-nil v.mine)) refl refl refl refl }

pub playing_none : (volume : Volume) (patience : ℕ) (first : Pass) (lines : List Command) → IsReady (flash_of volume) first
    → Playing volume patience first lines 0 first []
playing_none volume patience first lines ready = record { ready = ready; told = λ t role. played_none t patience (view_of first) }

-- one step of the loop
pub playing_more : (volume : Volume) (patience : ℕ) (first now next : Pass) (lines : List Command) (i : ℕ) (answers : List Said) (a : Said) (c : Command)
    → Playing volume patience first lines i now answers → i < length lines → c ≡ get_or lines i c → IsReady (flash_of volume) next
    → ((t : ℕ) → (view_of now).role ≡ Player (APass t) → PlayedLine t patience (view_of now) c.op c.sector c.page a.kind a.page (is_full a.kind) (view_of next))
    → Playing volume patience first lines (i + 1) next (answers ++ a ∷ [])
playing_more volume patience first now next lines i answers a c all low at ready line =
    record {
      ready = ready;
      told = λ t role.
          let before = all.told t role in
          let one = line t (ap (λ (v : View). v.role) before.changed ∙ role) in
          let played = played_more t patience (view_of first) (view_of now) (view_of next) (take i lines) answers c a before one in
          let lines_are : take (i + 1) lines ≡ take i lines ++ c ∷ [] = take_more lines i c low ∙ ap (λ x. take i lines ++ x ∷ []) (sym at) in
          subst (λ (x : List Command). Played t patience (view_of first) x (answers ++ a ∷ []) (view_of next)) (sym lines_are) played;
    }

-- all lines are played
pub playing_end : (volume : Volume) (patience : ℕ) (first now : Pass) (lines : List Command) (i : ℕ) (answers : List Said)
    → Playing volume patience first lines i now answers → length lines ≤ i
    → (t : ℕ) → (view_of first).role ≡ Player (APass t) → Played t patience (view_of first) lines answers (view_of now)
playing_end volume patience first now lines i answers all past t role =
    subst (λ (x : List Command). Played t patience (view_of first) x answers (view_of now)) (take_all i lines past) (all.told t role)

-- a turn whose answer's page was lent
pub playing_lent : (volume : Volume) (patience : ℕ) (first now next : Pass) (lines : List Command) (i : ℕ) (answers : List Answer) (a : Answer)
    (k : Kind) (lent page : List ℕ) (c : Command)
    → Playing volume patience first lines i now (map said (take i answers)) → length answers ≡ length lines → i < length lines → c ≡ get_or lines i c
    → IsReady (flash_of volume) next
    → lent ≡ a.page.items → length page ≡ length lent
    → ((t : ℕ) → (view_of now).role ≡ Player (APass t) → PlayedLine t patience (view_of now) c.op c.sector c.page k page (is_full k) (view_of next))
    → Playing volume patience first lines (i + 1) next (map said (take (i + 1) (set answers i (record { kind = k; page = with_items a.page page }))))
playing_lent volume patience first now next lines i answers a k lent page c all count low at ready value long line =
    let len : length page ≡ a.page.len = long ∙ (ap (λ (xs : List ℕ). length xs) value ∙ sym a.page.ok.0) in
    let same : (with_items a.page page).items ≡ page = with_items_is a.page page len in
    let b : Answer = record { kind = k; page = with_items a.page page } in
    let more = playing_more volume patience first now next lines i (map said (take i answers)) (said b) c all low at ready
    (λ t role. subst (λ (xs : List ℕ). PlayedLine t patience (view_of now) c.op c.sector c.page k xs (is_full k) (view_of next)) (sym same) (line t role)) in
    subst (Playing volume patience first lines (i + 1) next)
    (sym (ap (map said) (take_more_set answers i b (omega (arith, count))) ∙ map_push said (take i answers) b)) more

-- a page that was lent and came back is still a page
pub lent_page : (volume : Volume) (a : Answer) (lent page : List ℕ) → lent ≡ a.page.items → length page ≡ length lent
    → HasPage (geometry_of (flash_of volume)) a → length (with_items a.page page).items ≡ page_bytes_of (geometry_of (flash_of volume))
lent_page volume a lent page value long has =
    let len : length page ≡ a.page.len = long ∙ (ap (λ (xs : List ℕ). length xs) value ∙ sym a.page.ok.0) in
    ap (λ (xs : List ℕ). length xs) (with_items_is a.page page len) ∙ (len ∙ (a.page.ok.0 ∙ has))

-- the page of an answer that tells none is of no account
pub other_page : (t patience : ℕ) (v : View) (o : Op) (s : ℕ) (value : List ℕ) (k : Kind) (page other : List ℕ) (full : Bool) (w : View)
    → (k ≡ kind.Page → page ≡ other) → PlayedLine t patience v o s value k page full w → PlayedLine t patience v o s value k other full w
other_page t patience v o s value k page other full w same p =
    record {
      history = p.history;
      later = p.later;
      right = moved o (held v.numbers.sectors p.history s) p.right;
      last = p.last;
      adds = p.adds;
    } where
      moved : (o : Op) (x : Sector) → IsRight o x k page → IsRight o x k other
      moved op.Read None right = right
      moved op.Read (Some value) right = (right.0, sym (same right.0) ∙ right.1)
      moved op.Write x right = right
      moved op.New x right = right
      moved op.Trim x right = right
      moved op.Meet x right = right

-- a page is told of a read alone
no_page : (x : Sector) → ¬ (kind_of (was_of x) ≡ kind.Page)
no_page None is = absurd (cc)
no_page (Some value) is = absurd (cc)

pub page_of_read : (o : Op) (x : Sector) (k : Kind) (page : List ℕ) → IsRight o x k page → k ≡ kind.Page → o ≡ op.Read
page_of_read op.Read x k page right is = refl
page_of_read op.Write x k page right is = absurd (⊎_elim (λ (e : k ≡ kind.Full). absurd (cc)) (λ (e : k ≡ kind_of (was_of x)). no_page x (sym e ∙ is)) right)
page_of_read op.New x k page right is = absurd (⊎_elim (λ (e : k ≡ kind.Full). absurd (cc)) (λ (e : k ≡ kind_of (was_of x)). no_page x (sym e ∙ is)) right)
page_of_read op.Trim x k page right is = absurd (no_page x (sym right ∙ is))
page_of_read op.Meet x k page right is = absurd (cc)

pub told_of_read : (patience : ℕ) (p q : Pass) (o : Op) (s : ℕ) (value : List ℕ) (k : Kind) (page : List ℕ) → is_pass (view_of p).role ≡ true
    → HasPlayedLine patience p o s value k page q → k ≡ kind.Page → o ≡ op.Read
told_of_read patience p q o s value k page pass played is =
    let t = pass_of (view_of p).role pass in
    let line = played t.0 t.1 in
    page_of_read o (held (view_of p).numbers.sectors line.history s) k page line.right is

-- the line at a place
pub line_there : (lines : List Command) (places : List ℕ) (i : ℕ) (c : Command) → i < length places → slice_get lines (get_or places i 0) ≡ Some c
    → c ≡ get_or (lines_at lines places) i c
line_there lines places i c low is =
    sym (get_or-map (λ p. get_or lines p no_line) places i 0 c low ∙ get_or_from_slice_get lines (get_or places i 0) c no_line is)

pub count_lines : (lines : List Command) (places : List ℕ) → length (lines_at lines places) ≡ length places
count_lines lines places = length-map places (λ p. get_or lines p no_line)
