use Rattle.std.proofs.Common.{◌≡◌, ◌∙◌, ◌+◌, inl, ℕ, refl, ap}
use Rattle.std.specs.Prelude.{Result, Ok, Err, OnErr}
use Rattle.disk_model.proofs.Moments.{adds_then, adds_weaker}
use Rattle.block_format.specs.Root.{root_of}
use Rattle.command_log.specs.Logging.{next_root}
use Rattle.command_log.proofs.LoggingLemmas.{kept_in, any_keeps, switched_next, next_is_done, next_is_seen, stands_either}
use Rattle.command_log.proofs.logging.log.Goals as goal

on_err : {T E P : Type 0} (r : Result T E) → P → OnErr r P
on_err (Ok x) p = tt
on_err (Err e) p = p

pub returns-in_err-append-clause-during : goal.returns-in_err-append-clause-during
returns-in_err-append-clause-during g c tells r m may =
    adds_weaker (c.append.ensures.during tells) (λ t changes image is. stands_either (g.D.Disk.state c.args.disk.now).contents c.args.command.now r m may image
    (inl (kept_in (g.D.Disk.state c.args.disk.now) c.args.current.now.slot c.args.current.now.body c.args.command.now _ (c.requires.current tells) c.requires.slot c.requires.room refl changes image is)))

pub returns-in_err-append-clause-left : goal.returns-in_err-append-clause-left
returns-in_err-append-clause-left g c = on_err c.from_residual.result (λ tells r m may image is.
    stands_either (g.D.Disk.state c.args.disk.now).contents c.args.command.now r m may image
    (inl (kept_in (g.D.Disk.state c.args.disk.now) c.args.current.now.slot c.args.current.now.body c.args.command.now _ (c.requires.current tells) c.requires.slot c.requires.room refl (c.append.ensures.changes tells) image is)))

pub returns-in_err-slot-clause-during : goal.returns-in_err-slot-clause-during
returns-in_err-slot-clause-during g c tells r m may =
    let next_is : root_of c.next_body-body.result ≡ next_root (root_of c.args.current.now.body) c.args.command.now =
    c.next_body-body.ensures.next ∙ ap (λ (n : ℕ). record (root_of c.args.current.now.body) { records = c.args.current.now.body.records + 1; log_used = c.args.current.now.body.log_used + n }) c.record_blocks.ensures.is in
    adds_then
    (adds_weaker (c.append.ensures.during tells) (λ t changes image is. stands_either (g.D.Disk.state c.args.disk.now).contents c.args.command.now r m may image
    (inl (kept_in (g.D.Disk.state c.args.disk.now) c.args.current.now.slot c.args.current.now.body c.args.command.now _ (c.requires.current tells) c.requires.slot c.requires.room refl changes image is))))
    (c.commit.ensures.during tells)
    (λ t each image is. stands_either (g.D.Disk.state c.args.disk.now).contents c.args.command.now r m may image
    (any_keeps (g.D.Disk.state c.args.disk.now) c.args.current.now.slot c.args.current.now.body c.args.command.now _ (c.requires.current tells) c.requires.slot c.requires.room refl
    (g.D.Disk.state c.append.new.disk) (c.append.ensures.changes tells) c.next_body-body.result next_is c.next_body-body.ensures.grammar c.commit.ensures.reads_back c.append.ensures.has_record (c.in_ok-append.ensures.stands tells) image (each image is)))

pub returns-in_err-slot-clause-left : goal.returns-in_err-slot-clause-left
returns-in_err-slot-clause-left g c = on_err c.from_residual-in_err-slot.result (λ tells r m may image is.
    let next_is : root_of c.next_body-body.result ≡ next_root (root_of c.args.current.now.body) c.args.command.now =
    c.next_body-body.ensures.next ∙ ap (λ (n : ℕ). record (root_of c.args.current.now.body) { records = c.args.current.now.body.records + 1; log_used = c.args.current.now.body.log_used + n }) c.record_blocks.ensures.is in
    stands_either (g.D.Disk.state c.args.disk.now).contents c.args.command.now r m may image
    (any_keeps (g.D.Disk.state c.args.disk.now) c.args.current.now.slot c.args.current.now.body c.args.command.now _ (c.requires.current tells) c.requires.slot c.requires.room refl
    (g.D.Disk.state c.append.new.disk) (c.append.ensures.changes tells) c.next_body-body.result next_is c.next_body-body.ensures.grammar c.commit.ensures.reads_back c.append.ensures.has_record (c.in_ok-append.ensures.stands tells) image (c.in_err-slot.ensures.left tells image is)))

pub returns-clause-next : goal.returns-clause-next
returns-clause-next g c tells =
    let next_is : root_of c.next_body-body.result ≡ next_root (root_of c.args.current.now.body) c.args.command.now =
    c.next_body-body.ensures.next ∙ ap (λ (n : ℕ). record (root_of c.args.current.now.body) { records = c.args.current.now.body.records + 1; log_used = c.args.current.now.body.log_used + n }) c.record_blocks.ensures.is in
    switched_next (g.D.Disk.state c.args.disk.now) c.args.current.now.slot c.args.current.now.body c.args.command.now _ (c.requires.current tells) c.requires.slot c.requires.room refl
    (g.D.Disk.state c.append.new.disk) (c.append.ensures.changes tells) c.next_body-body.result next_is c.next_body-body.ensures.grammar c.commit.ensures.reads_back c.append.ensures.has_record (c.in_ok-append.ensures.stands tells)
    (g.D.Disk.state c.commit.new.disk) (c.in_ok-slot.ensures.switched tells)

pub returns-clause-stands : goal.returns-clause-stands
returns-clause-stands g c tells r m may =
    next_is_done (g.D.Disk.state c.args.disk.now).contents c.args.command.now r m may (g.D.Disk.state c.commit.new.disk).contents (returns-clause-next g c tells)

pub returns-clause-seen : goal.returns-clause-seen
returns-clause-seen g c tells r m may =
    next_is_seen (g.D.Disk.state c.args.disk.now).contents c.args.command.now r m may (g.D.Disk.state c.commit.new.disk).contents (returns-clause-next g c tells)

pub returns-clause-during : goal.returns-clause-during
returns-clause-during g c tells r m may =
    let next_is : root_of c.next_body-body.result ≡ next_root (root_of c.args.current.now.body) c.args.command.now =
    c.next_body-body.ensures.next ∙ ap (λ (n : ℕ). record (root_of c.args.current.now.body) { records = c.args.current.now.body.records + 1; log_used = c.args.current.now.body.log_used + n }) c.record_blocks.ensures.is in
    adds_then
    (adds_weaker (c.append.ensures.during tells) (λ t changes image is. stands_either (g.D.Disk.state c.args.disk.now).contents c.args.command.now r m may image
    (inl (kept_in (g.D.Disk.state c.args.disk.now) c.args.current.now.slot c.args.current.now.body c.args.command.now _ (c.requires.current tells) c.requires.slot c.requires.room refl changes image is))))
    (c.commit.ensures.during tells)
    (λ t each image is. stands_either (g.D.Disk.state c.args.disk.now).contents c.args.command.now r m may image
    (any_keeps (g.D.Disk.state c.args.disk.now) c.args.current.now.slot c.args.current.now.body c.args.command.now _ (c.requires.current tells) c.requires.slot c.requires.room refl
    (g.D.Disk.state c.append.new.disk) (c.append.ensures.changes tells) c.next_body-body.result next_is c.next_body-body.ensures.grammar c.commit.ensures.reads_back c.append.ensures.has_record (c.in_ok-append.ensures.stands tells) image (each image is)))
