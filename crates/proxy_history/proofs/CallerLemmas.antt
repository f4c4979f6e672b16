-- What crates above may cite of the proofs about histories. They name this module and no other of this folder.

-- LAWS OF LEGAL HISTORIES

-- a beginning of a legal history is legal
pub use Rattle.proxy_history.proofs.BeginningLemmas.{beginning as IsLegal-append}
-- what was handed out is the first outcomes, all of which have come
pub use Rattle.proxy_history.proofs.handing.OrderLemmas.{in_order as transcript-first_outcomes}
-- no part is sent twice
pub use Rattle.proxy_history.proofs.sending.SentOnceLemmas.{none_twice as AreApart-sent}
-- each part arrived with a command
pub use Rattle.proxy_history.proofs.parts.ArrivalLemmas.{parts_have_arrived as HasArrived-parts}
-- each part that was sent is one that arrived
pub use Rattle.proxy_history.proofs.parts.ArrivalLemmas.{sent_parts_arrived as Contains-sent}
-- no more replies came from a host than parts were sent to it
pub use Rattle.proxy_history.proofs.sending.ReplyCountLemmas.{replies_were_asked as length-came}
-- each outcome can be written
pub use Rattle.proxy_history.proofs.outcomes.PlainOutcomeLemmas.{outcome_is_plain as IsPlainIfAny-outcome}
-- whether a value, if there is one, can be written
pub use Rattle.proxy_history.proofs.outcomes.PlainOutcomeLemmas.{IsPlainIfAny}
-- a legal history keeps the limits
pub use Rattle.proxy_history.proofs.LimitLemmas.{limits_hold as IsWithinLimits-IsLegal}
-- after the close of a connection no event of it stands
pub use Rattle.proxy_history.proofs.handing.AfterCloseLemmas.{closed_gets_nothing as has-closed}
-- each Handed step hands out the next outcome
pub use Rattle.proxy_history.proofs.handing.HandingLemmas.{handed_is_its_outcome as HandsOut-handed}
-- each Taken step sends the first part that waits
pub use Rattle.proxy_history.proofs.sending.SendingLemmas.{each_taken_sends as Sends-taken}
-- only a Taken step of a host in an epoch changes what was sent to it then
pub use Rattle.proxy_history.proofs.sending.SendingLemmas.{sent_to-others}
-- what went out to a host is the texts of the parts sent
pub use Rattle.proxy_history.proofs.sending.SendingLemmas.{upstream_is_what_was_sent as upstream-sent_to}
-- each event has an answer of its kind
pub use Rattle.proxy_history.proofs.StepLemmas.{answers_fit as IsAnswerTo-IsLegal}
-- no step of a connection stands before its opening
pub use Rattle.proxy_history.proofs.StepLemmas.{openings_come_first as connection_steps-opened}
-- a connection that was not opened has no steps
pub use Rattle.proxy_history.proofs.StepLemmas.{unopened_have_no_steps as connection_steps-unopened}
-- each step of a host names its present epoch
pub use Rattle.proxy_history.proofs.StepLemmas.{epochs_are_present as IsOfPresentEpoch-IsLegal}
-- WHAT NO CAUSE OF REFUSAL MEANS

-- where a row of causes gives no refusal each of them is false
pub use Rattle.proxy_history.proofs.causes.NoCauseLemmas.{are_false as first_true-none}
-- a handing out is refused as not ready exactly where nothing is ready
pub use Rattle.proxy_history.proofs.causes.CauseLemmas.{not_ready_means as own_cause-not_ready}
-- an open connection that finishes takes no command more
pub use Rattle.proxy_history.proofs.causes.CauseLemmas.{finishing_takes_nothing as own_cause-finishing}
-- what each refusal says of the history
pub use Rattle.proxy_history.proofs.causes.RefusalLemmas.{refusals_mean as Means-IsCause}
-- a reply that is accepted is of the present epoch
pub use Rattle.proxy_history.proofs.causes.NoCauseLemmas.{is_current as own_cause-answered}
-- and some part flies
pub use Rattle.proxy_history.proofs.sending.ReplyCountLemmas.{some_fly as flying-answered}
-- an event without a cause is of a host that there is
pub use Rattle.proxy_history.proofs.causes.HostLemmas.{has_host as HasHost-own_cause}
-- THE PARTS OF COMMANDS

-- all these parts are of the command
pub use Rattle.proxy_history.proofs.parts.PlacingLemmas.{AreOf}
-- those that are placed for a command are of it
pub use Rattle.proxy_history.proofs.parts.PlacingLemmas.{placing_are_of as AreOf-placing}
-- and so are all that an arrival places
pub use Rattle.proxy_history.proofs.parts.CommandPartLemmas.{are_placed as AreOf-placing_first}
-- as many are placed as there are plans
pub use Rattle.proxy_history.proofs.parts.CommandPartLemmas.{length-placing}
-- of the parts of one command all are of it
pub use Rattle.proxy_history.proofs.parts.CommandPartLemmas.{all_of as filter-AreOf}
-- and none is of another
pub use Rattle.proxy_history.proofs.parts.PlacingLemmas.{none_of as filter-AreOf_other}
-- a command that has not arrived has no parts
pub use Rattle.proxy_history.proofs.parts.CommandPartLemmas.{not_yet as parts_of-not_yet}
-- the parts of a command that arrived stay the same
pub use Rattle.proxy_history.proofs.parts.PlacingLemmas.{parts_stay as parts_of-after}
-- as many requests as arrivals
pub use Rattle.proxy_history.proofs.parts.PlacingLemmas.{length-requests}
-- a join of a plan may be asked for its parts
pub use Rattle.proxy_history.proofs.parts.CommandPartLemmas.{plan_may_join as MayJoin-plan_for}
-- and so are the values of its parts, where all have come
pub use Rattle.proxy_history.proofs.parts.CommandPartLemmas.{values_may_join, if_some_may_join}
-- a command has the parts of its plan
pub use Rattle.proxy_history.proofs.parts.CommandPartLemmas.{commands_have_their_parts as HasItsParts-parts_of}
-- the parts are apart, and of commands that arrived
pub use Rattle.proxy_history.proofs.parts.AreApartLemmas.{parts_are_in_order as AreInOrder-parts}
-- these parts are of commands that arrived
pub use Rattle.proxy_history.proofs.parts.AreApartLemmas.{AreEarlier}
-- they are so one step later
pub use Rattle.proxy_history.proofs.parts.AreApartLemmas.{earlier_grows as AreEarlier-cons}
-- and so are all of two lists
pub use Rattle.proxy_history.proofs.parts.AreApartLemmas.{earlier_both as AreEarlier-append}
-- a part keeps its number when it gets its host
pub use Rattle.proxy_history.proofs.parts.AreApartLemmas.{host_keeps_number as number-with_host}
-- WHAT WAITS

-- who waits is of the present epoch, was not sent, and its connection is open
pub use Rattle.proxy_history.proofs.parts.FilterLemmas.{waits_parts as waits-true}
-- a part of a pipe has its host and epoch
pub use Rattle.proxy_history.proofs.outcomes.ValueLemmas.{is_of_parts as is_of-true}
-- a part has one host
pub use Rattle.proxy_history.proofs.outcomes.ValueLemmas.{same_host as is_host-same}
-- after a part was sent the others wait on
pub use Rattle.proxy_history.proofs.sending.WaitingStepLemmas.{taken_waits as waits-taken}
-- a Taken step takes the first that waits
pub use Rattle.proxy_history.proofs.sending.WaitingStepLemmas.{after_taken as waiting-taken}
-- a Closed step takes those of its connection
pub use Rattle.proxy_history.proofs.sending.WaitingStepLemmas.{after_closed as waiting-closed}
-- after a fault nothing waits
pub use Rattle.proxy_history.proofs.parts.EpochLemmas.{fault_empties as waiting-failed}
-- none of these parts is of an epoch to come
pub use Rattle.proxy_history.proofs.sending.WaitingStepLemmas.{AreOfPast}
-- so it is with all parts of a history
pub use Rattle.proxy_history.proofs.parts.EpochLemmas.{are_of_past as AreOfPast-parts}
-- and one step later
pub use Rattle.proxy_history.proofs.parts.EpochLemmas.{of_past_grows as AreOfPast-cons}
-- and of two lists
pub use Rattle.proxy_history.proofs.parts.EpochLemmas.{of_past_both as AreOfPast-append}
-- a test that only the next epoch passes keeps none of them
pub use Rattle.proxy_history.proofs.sending.WaitingStepLemmas.{none_of_next as filter-none_of_next}
-- who waits is unsent, and the other way round
pub use Rattle.proxy_history.proofs.sending.UnsentLemmas.{unsent_parts_wait as Contains-waiting}
-- of two parts that wait the one in front came first
pub use Rattle.proxy_history.proofs.sending.WaitingOrderLemmas.{waiting_is_in_order as waiting-split}
-- PARTS THAT ARE THE SAME

-- a part is the same as itself
pub use Rattle.proxy_history.proofs.sending.WaitingStepLemmas.{is_same_self as is_same-self}
-- the same in either order
pub use Rattle.proxy_history.proofs.sending.SentOnceLemmas.{is_same_sym as is_same-sym}
-- and so with others
pub use Rattle.proxy_history.proofs.sending.SentOnceLemmas.{is_other_sym as is_same-sym_false}
-- among parts that are apart the same are equal
pub use Rattle.proxy_history.proofs.sending.UnsentLemmas.{one_part as is_same-apart}
-- parts that are apart stay so in a filter
pub use Rattle.proxy_history.proofs.sending.WaitingStepLemmas.{apart_filter as AreApart-filter}
-- who is none of these takes none of them
pub use Rattle.proxy_history.proofs.sending.WaitingStepLemmas.{all_stay as filter-others}
-- OWN STEPS, AND THE ORDER IN WHICH A PASS SEES THEM

-- own steps tell all of a connection
pub use Rattle.proxy_history.proofs.OwnStepsLemmas.{connection_steps_tell_all as SameOfConnection-connection_steps}
-- steps of others leave it as it is
pub use Rattle.proxy_history.proofs.OwnStepsLemmas.{others_leave_connections as SameOfConnection-append}
-- own steps tell all of a host
pub use Rattle.proxy_history.proofs.OwnStepsLemmas.{host_steps_tell_all as SameOfHost-host_steps}
-- steps of others leave it as it is
pub use Rattle.proxy_history.proofs.OwnStepsLemmas.{others_leave_hosts as SameOfHost-append}
-- later steps stand in front of a history
pub use Rattle.proxy_history.proofs.SeenStepsLemmas.{history_of_seen-append}
-- and so does one more step
pub use Rattle.proxy_history.proofs.SeenStepsLemmas.{history_of_seen-push}
-- each order gives the other
pub use Rattle.proxy_history.proofs.SeenStepsLemmas.{orders_hold_the_same as OrdersAgree-seen}
-- what is seen is legal with one more step that may follow
pub use Rattle.proxy_history.proofs.SeenStepsLemmas.{seen_steps_follow as IsLegal-history_of_seen-push}
-- each beginning of a legal journal is legal
pub use Rattle.proxy_history.proofs.SeenStepsLemmas.{seen_beginnings_are_legal as IsLegal-history_of_seen-append}
-- what a history tells, in the order in which a pass sees it
pub use Rattle.proxy_history.proofs.SeenStepsLemmas.{seen_is_read_in_order as IsReadInOrder-seen}
-- LISTS AND COUNTS

-- no count falls
pub use Rattle.proxy_history.proofs.GrowthLemmas.{times_grows as times-cons}
-- no more steps are counted than there are
pub use Rattle.proxy_history.proofs.GrowthLemmas.{times-length}
-- what was sent one step later
pub use Rattle.proxy_history.proofs.outcomes.ValueLemmas.{sent_to_after as sent_to-after}
-- each of these parts passes the test
pub use Rattle.proxy_history.proofs.parts.FilterLemmas.{AreGood}
-- so it is with those that a filter keeps
pub use Rattle.proxy_history.proofs.parts.FilterLemmas.{filter_is_good as AreGood-filter}
-- equal numbers are equal the other way round
pub use Rattle.proxy_history.proofs.sending.SentOnceLemmas.{eqb_sym as eq-sym}
