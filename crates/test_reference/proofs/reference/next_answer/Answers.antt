use Rattle.std.proofs.Common.{refl, sym, ap, ◌∙◌}
use Rattle.test_reference.specs.Scan.{history_of}
use Rattle.proxy_history.specs.Proxy.{setting_of}
use Rattle.proxy_history.specs.Past.{past}
use Rattle.proxy_history.proofs.CallerLemmas.{HasHost-own_cause}
use Rattle.test_reference.proofs.MayFollowLemmas.{legal_have_hosts, cause_is, follows, full_is}
use Rattle.test_reference.proofs.AnswerLemmas.{told_here, cause_here}
use Rattle.test_reference.proofs.reference.next_answer.Goals as goal

pub own_cause-requires : goal.own_cause-requires
own_cause-requires c =
    let S = setting_of c.args.ring.now c.args.settings in
    (S, c.in_ok-replay.ensures S refl refl refl (legal_have_hosts S c.args.steps.now c.requires.legal))

pub returns-in-Some-clause-cause : goal.returns-in-Some-clause-cause
returns-in-Some-clause-cause c =
    let S = setting_of c.args.ring.now c.args.settings in
    let H = history_of c.args.steps.now in
    let shows = c.in_ok-replay.ensures S refl refl refl (legal_have_hosts S c.args.steps.now c.requires.legal) in
    cause_is S H c.args.event.now c.in-Some.cause (sym (cause_here S H c.args.steps.now c.in_ok-replay.replay c.args.event.now refl shows) ∙ sym (c.in_ok-cause.ensures S (sym c.hosts.ensures.value)) ∙ c.in-Some.is)

pub answer_to-requires-clause-hosts : goal.answer_to-requires-clause-hosts
answer_to-requires-clause-hosts c =
    let S = setting_of c.args.ring.now c.args.settings in
    let shows = c.in_ok-replay.ensures S refl refl refl (legal_have_hosts S c.args.steps.now c.requires.legal) in
    sym (ap (λ z. z.hosts) shows.rules)

pub answer_to-requires-clause-tags : goal.answer_to-requires-clause-tags
answer_to-requires-clause-tags c =
    let S = setting_of c.args.ring.now c.args.settings in
    let shows = c.in_ok-replay.ensures S refl refl refl (legal_have_hosts S c.args.steps.now c.requires.legal) in
    sym (ap (λ z. z.settings.tags) shows.rules)

pub answer_to-requires-clause-legal : goal.answer_to-requires-clause-legal
answer_to-requires-clause-legal c =
    let S = setting_of c.args.ring.now c.args.settings in
    (S, c.requires.legal, c.in_ok-replay.ensures S refl refl refl (legal_have_hosts S c.args.steps.now c.requires.legal))

pub answer_to-requires-clause-host : goal.answer_to-requires-clause-host
answer_to-requires-clause-host c =
    let S = setting_of c.args.ring.now c.args.settings in
    let H = history_of c.args.steps.now in
    let shows = c.in_ok-replay.ensures S refl refl refl (legal_have_hosts S c.args.steps.now c.requires.legal) in
    HasHost-own_cause S (past S H) c.args.event.now (sym (cause_here S H c.args.steps.now c.in_ok-replay.replay c.args.event.now refl shows) ∙ sym (c.in_ok-cause.ensures S (sym c.hosts.ensures.value)) ∙ c.in_default.is)

pub returns-then-has_room-clause-answer : goal.returns-then-has_room-clause-answer
returns-then-has_room-clause-answer c =
    let S = setting_of c.args.ring.now c.args.settings in
    let H = history_of c.args.steps.now in
    let shows = c.in_ok-replay.ensures S refl refl refl (legal_have_hosts S c.args.steps.now c.requires.legal) in
    let none = sym (cause_here S H c.args.steps.now c.in_ok-replay.replay c.args.event.now refl shows) ∙ sym (c.in_ok-cause.ensures S (sym c.hosts.ensures.value)) ∙ c.in_default.is in
    follows S H c.args.event.now c.in_ok-answer.answer none
    (told_here S H c.args.steps.now c.in_ok-replay.replay c.in_ok-answer.answer c.args.event.now refl shows (λ T marks f g k. c.in_ok-answer.ensures T marks f (g ∙ sym shows.rules) k))
    (sym c.has_room.ensures ∙ c.if-has_room.true)

pub returns-clause-cause : goal.returns-clause-cause
returns-clause-cause c =
    let S = setting_of c.args.ring.now c.args.settings in
    let H = history_of c.args.steps.now in
    let shows = c.in_ok-replay.ensures S refl refl refl (legal_have_hosts S c.args.steps.now c.requires.legal) in
    let none = sym (cause_here S H c.args.steps.now c.in_ok-replay.replay c.args.event.now refl shows) ∙ sym (c.in_ok-cause.ensures S (sym c.hosts.ensures.value)) ∙ c.in_default.is in
    full_is S H c.args.event.now c.in_ok-answer.answer none
    (told_here S H c.args.steps.now c.in_ok-replay.replay c.in_ok-answer.answer c.args.event.now refl shows (λ T marks f g k. c.in_ok-answer.ensures T marks f (g ∙ sym shows.rules) k))
    (sym c.has_room.ensures ∙ c.if-has_room.false)
