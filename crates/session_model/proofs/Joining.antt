-- How courses are made: of nothing, of one item, and of two courses.
use Rattle.std.proofs.Common.{◌≡◌, ◌≢◌, ◌∙◌, inl, inr, ℕ, Bool, true, false, List, [], ◌∷◌, ◌++◌, refl, sym, ap, subst, IsTrue}
use Rattle.std.specs.Prelude.{◌&&◌, None}
use Rattle.vol_numbers.specs.declared.block.Block.{Block}
use Rattle.disk_model.specs.Disk.{State}
use Rattle.disk_model.proofs.Moments.{adds_none, adds_then, adds_weaker}
use Rattle.tree_model.specs.declared.command.Command.{Command}
use Rattle.volume_model.specs.Legal.{when_answered}
use Rattle.volume_model.specs.Machine.{Machine, Rules}
use Rattle.volume_model.specs.Short.{AnswerForNow}
use Rattle.command_text.specs.declared.item.Item.{Item}
use Rattle.command_text.specs.declared.item.Item.TheVariants as item
use Rattle.session_model.specs.Given.{report_in}
use Rattle.session_model.specs.Course.{Course, Exchange, Last, end_of, next_by, state_after}
use Rattle.session_model.specs.Course.Last.{Nothing, Untold, Stop}
use Rattle.session_model.specs.Stages.{IsOneOf, StandsForOne, last_stages, stages, stages_by, passed, passed_from}
use Rattle.session_model.specs.Answered.{IsPaired, EachPaired, EachLegal}
use Rattle.session_model.specs.Follows.{Seen, Follows, Leaves, IsAtRest, is_idle, all_idle, IsKept, faults_in, raised_by}
use Rattle.session_model.specs.Making.{no_course, one_told, one_last, joined, with_told, IsLeft, Applies}
use Rattle.session_model.proofs.Counted.{none_raised, raised_then, one_counted, faults_then}
use Rattle.session_model.proofs.Passing.{one_left, one_right, of_three, prefix_of, last_prefix}

pub nothing_done : (r : Rules) (tells : Bool) (m : Machine) (disk : Seen) → (IsTrue tells → IsAtRest m disk.state) → Follows r tells (no_course m) disk disk
nothing_done r tells m disk rest = record {
  paired = tt;
  legal = λ is. tt;
  moments = λ is. adds_none disk.past _;
  leaves = rest;
  idle = λ is none. record { state = refl; moments = adds_none disk.past _ };
  faults = none_raised disk.faults;
}

-- ---- one item

left_there : (r : Rules) (m : Machine) (last : Last) (s : State) → IsLeft r m last s → Leaves r (one_last m last) last s
left_there r m Nothing s left = left
left_there r m (Untold e) s left = left
left_there r m (Stop command report) s left = record { unsynced = left.0; images = λ image is. last_prefix r (one_last m (Stop command report)) image (left.1 image is) }

pub last_done : (r : Rules) (tells : Bool) (m : Machine) (last : Last) (old new : Seen) → EachPaired [] last → Applies r tells m last old new → Follows r tells (one_last m last) old new
last_done r tells m last old new paired applies = record {
  paired = paired;
  legal = applies.legal;
  moments = λ is. adds_weaker (applies.during is) (λ s each image im. prefix_of r (one_last m last) image (each image im));
  leaves = λ is. left_there r m last new.state (applies.left is);
  idle = applies.idle;
  faults = applies.faults;
}

pub and_both : (x y : Bool) → x ≡ true → y ≡ true → (x && y) ≡ true
and_both x y ex ey = ap (λ (z : Bool). z && y) ex ∙ ey

pub and_left : (a b : Bool) → (a && b) ≡ true → a ≡ true
and_left true b e = refl
and_left false b e = e

pub and_right : (a b : Bool) → (a && b) ≡ true → b ≡ true
and_right true b e = e
and_right false b e = cc

told_one : (r : Rules) (m : Machine) (e : Exchange) (image : List Block) → StandsForOne (last_stages r m (Untold e)) image → StandsForOne (passed r (one_told m e)) image
told_one r m e image one = record { state = one.state; is_one = one_left (stages_by r m e) (passed_from r (next_by r m e) [] Nothing) one.state one.is_one; stands = one.stands }

pub told_done : (r : Rules) (tells : Bool) (m : Machine) (e : Exchange) (old new : Seen) → EachPaired [] (Untold e) → Applies r tells m (Untold e) old new → Follows r tells (one_told m e) old new
told_done r tells m e old new paired applies = record {
  paired = (paired, tt);
  legal = λ is. (applies.legal is, tt);
  moments = λ is. adds_weaker (applies.during is) (λ s each image im. prefix_of r (one_told m e) image (told_one r m e image (each image im)));
  leaves = applies.left;
  idle = λ is none. applies.idle is (and_left (is_idle e) true none);
  faults = applies.faults ∙ ap (λ (n : ℕ). raised_by n old.faults) (one_counted e);
}

refused_at : (r : Rules) (tells : Bool) (m : Machine) (i : Item) (answer : AnswerForNow) (disk : Seen) → IsPaired (record { item = i; answer = answer }) → ((command : Command) → i ≢ item.Command command) → (IsTrue tells → IsAtRest m disk.state)
    → Applies r tells m (Untold (record { item = i; answer = answer })) disk disk
refused_at r tells m (item.Command command) answer disk paired not rest = absurd (not command refl)
refused_at r tells m (item.Refused refusal) answer disk paired not rest = record {
  legal = λ is. tt;
  during = λ is. adds_none disk.past _;
  left = λ is. subst (λ (a : AnswerForNow). IsAtRest (when_answered r m (report_in a)) disk.state) (sym paired) (rest is);
  idle = λ is none. record { state = refl; moments = adds_none disk.past _ };
  faults = none_raised disk.faults;
}
refused_at r tells m item.Ended answer disk paired not rest = absurd paired

pub refused_done : (r : Rules) (tells : Bool) (m : Machine) (e : Exchange) (disk : Seen) → EachPaired [] (Untold e) → ((command : Command) → e.item ≢ item.Command command) → (IsTrue tells → IsAtRest m disk.state)
    → Applies r tells m (Untold e) disk disk
refused_done r tells m e disk paired not rest = refused_at r tells m e.item e.answer disk paired not rest

-- ---- two courses

paired_then : (a b : List Exchange) (last : Last) → EachPaired a Nothing → EachPaired b last → EachPaired (a ++ b) last
paired_then [] b last one two = two
paired_then (e ∷ a) b last one two = (one.0, paired_then a b last one.1 two)

legal_then : (r : Rules) (m : Machine) (a b : List Exchange) (last : Last) → EachLegal r m a Nothing → EachLegal r (state_after r m a) b last → EachLegal r m (a ++ b) last
legal_then r m [] b last one two = two
legal_then r m (e ∷ a) b last one two = (one.0, legal_then r (next_by r m e) a b last one.1 two)

passed_left : (r : Rules) (m : Machine) (a b : List Exchange) (last : Last) (s : Machine) → IsOneOf (passed_from r m a Nothing) s → IsOneOf (passed_from r m (a ++ b) last) s
passed_left r m [] b last s is = begins r m b last s is
  where
    here : (r : Rules) (m : Machine) (s : Machine) → IsOneOf (stages r m None []) s → s ≡ m
    here r m s is = of_three m m m s (λ (x : Machine). x ≡ m) refl refl refl is

    begins : (r : Rules) (m : Machine) (b : List Exchange) (last : Last) (s : Machine) → IsOneOf (stages r m None []) s → IsOneOf (passed_from r m b last) s
    begins r m [] last s is = inl (here r m s is)
    begins r m (e ∷ b) last s is = inl (here r m s is)
passed_left r m (e ∷ a) b last s is =
    joins (stages_by r m e) (passed_from r (next_by r m e) a Nothing) (passed_from r (next_by r m e) (a ++ b) last) s (λ later. passed_left r (next_by r m e) a b last s later) is
  where
    joins : (xs ys zs : List Machine) (s : Machine) → (IsOneOf ys s → IsOneOf zs s) → IsOneOf (xs ++ ys) s → IsOneOf (xs ++ zs) s
    joins [] ys zs s more is = more is
    joins (x ∷ xs) ys zs s more (inl e) = inl e
    joins (x ∷ xs) ys zs s more (inr later) = inr (joins xs ys zs s more later)

passed_right : (r : Rules) (m : Machine) (a b : List Exchange) (last : Last) (s : Machine) → IsOneOf (passed_from r (state_after r m a) b last) s → IsOneOf (passed_from r m (a ++ b) last) s
passed_right r m [] b last s is = is
passed_right r m (e ∷ a) b last s is = one_right (stages_by r m e) (passed_from r (next_by r m e) (a ++ b) last) s (passed_right r (next_by r m e) a b last s is)

pub state_then : (r : Rules) (m : Machine) (a b : List Exchange) → state_after r m (a ++ b) ≡ state_after r (state_after r m a) b
state_then r m [] b = refl
state_then r m (e ∷ a) b = state_then r (next_by r m e) a b

idle_left : (a b : List Exchange) (last : Last) → all_idle (a ++ b) last ≡ true → all_idle a Nothing ≡ true
idle_left [] b last none = refl
idle_left (e ∷ a) b last none = and_both (is_idle e) (all_idle a Nothing) (and_left (is_idle e) _ none) (idle_left a b last (and_right (is_idle e) _ none))

idle_right : (a b : List Exchange) (last : Last) → all_idle (a ++ b) last ≡ true → all_idle b last ≡ true
idle_right [] b last none = none
idle_right (e ∷ a) b last none = idle_right a b last (and_right (is_idle e) _ none)

kept_then : {old mid new : Seen} → IsKept old mid → IsKept mid new → IsKept old new
kept_then one two = record { state = two.state ∙ one.state; moments = adds_then one.moments two.moments (λ s e. e ∙ one.state) }

module _ (r : Rules) (m : Machine) (a b : List Exchange) where
  abbrev both : Last → Course
  both last = record { start = m; told = a ++ b; last = last }

  abbrev second : Last → Course
  second last = record { start = state_after r m a; told = b; last = last }

  leaves_then : (last : Last) (s : State) → Leaves r (second last) last s → Leaves r (both last) last s
  leaves_then Nothing s left = subst (λ (x : Machine). IsAtRest x s) (sym (state_then r m a b)) left
  leaves_then (Untold e) s left = subst (λ (x : Machine). IsAtRest (next_by r x e) s) (sym (state_then r m a b)) left
  leaves_then (Stop command report) s left = record {
    unsynced = left.unsynced;
    images = λ image is.
        let p = left.images image is in
        last_prefix r (both (Stop command report)) image (record {
          state = p.state;
          is_one = subst (λ (x : Machine). IsOneOf (last_stages r x (Stop command report)) p.state) (sym (state_then r m a b)) p.is_one;
          stands = p.stands;
        });
  }

  pub course_then : (tells : Bool) (last : Last) (old mid new : Seen) → Follows r tells (record { start = m; told = a; last = Nothing }) old mid → Follows r tells (second last) mid new → Follows r tells (both last) old new
  course_then tells last old mid new one two = record {
    paired = paired_then a b last one.paired two.paired;
    legal = λ is. legal_then r m a b last (one.legal is) (two.legal is);
    moments = λ is. adds_then
        (adds_weaker (one.moments is) (λ s each image im. let p = each image im in prefix_of r (both last) image (record { state = p.state; is_one = passed_left r m a b last p.state p.is_one; stands = p.stands })))
        (two.moments is) (λ s each image im. let p = each image im in prefix_of r (both last) image (record { state = p.state; is_one = passed_right r m a b last p.state p.is_one; stands = p.stands }));
    leaves = λ is. leaves_then last new.state (two.leaves is);
    idle = λ is none. kept_then (one.idle is (idle_left a b last none)) (two.idle is (idle_right a b last none));
    faults = two.faults ∙ ap (raised_by (faults_in b last)) one.faults ∙ raised_then (faults_in a Nothing) (faults_in b last) old.faults ∙ ap (λ (n : ℕ). raised_by n old.faults) (sym (faults_then a b last));
  }

pub joined_done : (r : Rules) (tells : Bool) (c d : Course) (old mid new : Seen) → c.last ≡ Nothing → d.start ≡ end_of r c → Follows r tells c old mid → Follows r tells d mid new → Follows r tells (joined c d) old new
joined_done r tells c d old mid new ended starts one two =
    course_then r c.start c.told d.told tells d.last old mid new
    (subst (λ (l : Last). Follows r tells (record { start = c.start; told = c.told; last = l }) old mid) ended one)
    (subst (λ (x : Machine). Follows r tells (record { start = x; told = d.told; last = d.last }) mid new)
    (starts ∙ ap (λ (l : Last). end_of r (record { start = c.start; told = c.told; last = l })) ended) two)

pub one_more_done : (r : Rules) (tells : Bool) (c : Course) (e : Exchange) (old mid new : Seen) → c.last ≡ Nothing → EachPaired [] (Untold e) → Follows r tells c old mid → Applies r tells (end_of r c) (Untold e) mid new
    → Follows r tells (with_told c e) old new
one_more_done r tells c e old mid new none paired follows applies =
    joined_done r tells c (one_told (end_of r c) e) old mid new none refl follows (told_done r tells (end_of r c) e mid new paired applies)
