-- How sessions are made of one item, and of two sessions.
use Rattle.std.proofs.Common.{◌≡◌, ◌∙◌, inl, inr, ⊎_elim, ◌≤◌, ℕ, Bool, List, [], ◌∷◌, ◌++◌, map, refl, sym, ap, subst, arith, append_assoc, length-append, IsTrue}
use Rattle.std.specs.Prelude.{Option, None, Some}
use Rattle.std.proofs.lemmas.List.{append-nil, map-append}
use Rattle.std.proofs.lemmas.List.Concat.{flat_map-append}
use Rattle.disk_model.specs.Disk.{State}
use Rattle.disk_model.specs.Past.{Past}
use Rattle.wire_ends.specs.Ends.{Input, Takes, Puts}
use Rattle.wire_ends.proofs.PutLemmas.{puts_both}
use Rattle.volume_model.specs.Machine.{Machine, Rules}
use Rattle.command_text.specs.Text.{Text, Reads}
use Rattle.command_text.specs.declared.item.Item.{Item}
use Rattle.session_model.specs.Given.{given_text}
use Rattle.session_model.specs.Course.{Course, Exchange, Last, after, end_of, report_last, accepted_last, state_after}
use Rattle.session_model.specs.Course.Last.{Nothing}
use Rattle.session_model.specs.Follows.{Seen}
use Rattle.session_model.specs.Making.{joined, one_last, one_told}
use Rattle.session_model.specs.Session.{items_last, items_of, texts_of, part_of, Point, TakesFor, EndsBy, Session}
use Rattle.session_model.specs.SessionMaking.{point, SessionLast, SessionTold, SessionThen, OpeningThen}
use Rattle.session_model.specs.declared.status.Status.{Status}
use Rattle.session_model.specs.declared.status.Status.TheVariants.{Done, Usage, BadVolume, Device, SourceFailed, SinkFailed, NoMemory, BadStream, Budget}
use Rattle.session_model.proofs.Joining.{last_done, told_done, joined_done, state_then}

pub session_of_last : (tells : Bool) (d d' : Seen) → SessionLast tells d d'
session_of_last tells d d' r m last t t' rest n n' i i' o o' cut ended paired applies told read taken put ends = record {
  course = one_last m last;
  starts = refl;
  leads = refl;
  follows = last_done r tells m last d d' paired applies;
  rest = rest;
  told = told;
  read = read;
  taken = taken;
  cut = cut;
  put = put;
  ends = ends;
}

pub session_of_told : (tells : Bool) (d d' : Seen) → SessionTold tells d d'
session_of_told tells d d' r m e t t' n n' i i' o o' paired applies told read taken put = record {
  course = one_told m e;
  starts = refl;
  leads = refl;
  follows = told_done r tells m e d d' paired applies;
  rest = t';
  told = told;
  read = λ is. (t', read is, refl);
  taken = taken;
  cut = 0;
  put = subst (λ (l : List ℕ). Puts o o' l) (sym (append-nil (given_text e.answer ++ []) ∙ append-nil (given_text e.answer))) put;
  ends = (refl, λ is. refl);
}

reads_then : (text mid rest : Text) (cs ds : List Item) → Reads text cs mid → Reads mid ds rest → Reads text (cs ++ ds) rest
reads_then text mid rest [] ds one two = subst (λ (t : Text). Reads t ds rest) (sym one) two
reads_then text mid rest (c ∷ cs) ds one two = (one.0, one.1, reads_then one.0 mid rest cs ds one.2 two)

-- how it ends is told as far as at the start
ends_told : (ended : Option Status) (one two : Type 0) (new : Point) (rest : Text) (last : Last) (cut : ℕ) → (one → two) → EndsBy ended two new rest last cut → EndsBy ended one new rest last cut
ends_told None one two new rest last cut told ends = (ends.0, λ t. ends.1 (told t))
ends_told (Some Done) one two new rest last cut told ends = (ends.0, λ t. ends.1 (told t))
ends_told (Some BadStream) one two new rest last cut told ends = (ends.0, λ t. ends.1 (told t))
ends_told (Some Budget) one two new rest last cut told ends = (ends.0, λ t. ends.1 (told t))
ends_told (Some SourceFailed) one two new rest last cut told ends = (ends.0, λ t. ends.1 (told t))
ends_told (Some NoMemory) one two new rest last cut told ends = ends
ends_told (Some SinkFailed) one two new rest last cut told ends = ends
ends_told (Some Device) one two new rest last cut told ends = ends
ends_told (Some Usage) one two new rest last cut told ends = absurd ends
ends_told (Some BadVolume) one two new rest last cut told ends = absurd ends

takes_both : {old mid new : Input} {a b : List ℕ} → Takes old mid a → Takes mid new b → Takes old new (a ++ b)
takes_both {old = old} {mid = mid} {new = new} {a = a} {b = b} one two = record {
  told = λ t. two.told (one.told t);
  next = λ t. one.next t ∙ ap (λ (l : List ℕ). a ++ l) (two.next (one.told t)) ∙ sym (append_assoc a b new.left);
}

taken_then : {old mid new : Point} {ended : Option Status} → TakesFor None old mid → TakesFor ended mid new → TakesFor ended old new
taken_then one two = record {
  bytes = one.bytes ++ two.bytes;
  takes = takes_both one.takes two.takes;
  counted = omega (arith, one.counted, two.counted, length-append one.bytes two.bytes);
  over = λ is. (ap (λ (l : List ℕ). l ++ two.bytes) (one.over is).0 ∙ (two.over (one.over is).1).0, (two.over (one.over is).1).1);
  ahead = λ behind little. two.ahead behind (one.ahead tt little);
}

end_then : (r : Rules) (c d : Course) → c.last ≡ Nothing → d.start ≡ end_of r c → end_of r d ≡ end_of r (joined c d)
end_then r c d ended starts =
    let begun : d.start ≡ state_after r c.start c.told = starts ∙ ap (λ (l : Last). end_of r (record { start = c.start; told = c.told; last = l })) ended in
    ap (λ (x : Machine). after r x (report_last d.last) (accepted_last r x d.last)) (ap (λ (x : Machine). state_after r x d.told) begun ∙ sym (state_then r c.start c.told d.told))

abbrev item_in : Exchange → Item
item_in e = e.item

abbrev text_in : Exchange → List ℕ
text_in e = given_text e.answer

items_then : (a b : List Exchange) (last : Last) → map item_in a ++ (map item_in b ++ items_last last) ≡ map item_in (a ++ b) ++ items_last last
items_then a b last = sym (append_assoc (map item_in a) (map item_in b) (items_last last)) ∙ ap (λ (l : List Item). l ++ items_last last) (sym (map-append item_in a b))

texts_then : (a b : List Exchange) (part : List ℕ) → texts_of a ++ (texts_of b ++ part) ≡ texts_of (a ++ b) ++ part
texts_then a b part = sym (append_assoc (texts_of a) (texts_of b) part) ∙ ap (λ (l : List ℕ). l ++ part) (sym (flat_map-append text_in a b))

pub session_joined : (tells : Bool) (d d' d'' : Seen) → SessionThen tells d d' d''
session_joined tells d d' d'' r start between left ended t t' t'' n n' n'' i i' i'' o o' o'' one two =
    let none : one.course.last ≡ Nothing = one.ends.0 in
    let begun : two.course.start ≡ end_of r one.course = two.starts ∙ one.leads in
    record {
      course = joined one.course two.course;
      starts = one.starts;
      leads = two.leads ∙ end_then r one.course two.course none begun;
      follows = joined_done r tells one.course two.course d d' d'' none begun one.follows two.follows;
      rest = two.rest;
      told = λ is. two.told (one.told is);
      read = λ is. subst (λ (l : List Item). Reads t l two.rest) (items_then one.course.told two.course.told two.course.last)
          (reads_then t t' two.rest (map item_in one.course.told) (items_of two.course) (read_one one none is) (two.read (one.told is)));
      taken = taken_then one.taken two.taken;
      cut = two.cut;
      put = subst (λ (l : List ℕ). Puts o o'' l) (texts_then one.course.told two.course.told (part_of two.course.last two.cut)) (puts_both (put_one one none) two.put);
      ends = ends_told ended (IsTrue i.is_told) (IsTrue i'.is_told) (point t'' n'' i'' o'' d'') two.rest two.course.last two.cut one.told two.ends;
    }
  where
    read_one : (s : Session r tells start between (point t n i o d) (point t' n' i' o' d') None) → s.course.last ≡ Nothing → IsTrue i.is_told → Reads t (map item_in s.course.told) t'
    read_one s none is =
        subst (λ (x : Text). Reads t (map item_in s.course.told) x) (s.ends.1 is)
        (subst (λ (l : List Item). Reads t l s.rest) (ap (λ (l : Last). map item_in s.course.told ++ items_last l) none ∙ append-nil (map item_in s.course.told)) (s.read is))

    put_one : (s : Session r tells start between (point t n i o d) (point t' n' i' o' d') None) → s.course.last ≡ Nothing → Puts o o' (texts_of s.course.told)
    put_one s none = subst (λ (l : List ℕ). Puts o o' l) (ap (λ (l : Last). texts_of s.course.told ++ part_of l s.cut) none ∙ append-nil (texts_of s.course.told)) s.put

pub opening_joined : (start : State) (p p' p'' : Past) → OpeningThen start p p' p''
opening_joined start p p' p'' r c one two = record {
  told = λ is. one.told (two.told is);
  later = λ is. omega (arith, one.later (two.told is), two.later is);
  each = λ is t m le stood.
      let on : t ≤ p'.clock = omega (arith, le, one.later (two.told is)) in
      ⊎_elim (λ was. inl (one.each (two.told is) t m le was)) (λ q. inr q) (two.each is t m on stood);
}
