use Rattle.std.proofs.Common.{codes, refl}
use Rattle.gs_kernel.specs.declared.command.Command.TheVariants as commands
use Rattle.gs_core.specs.declared.event.Event.TheVariants as events
use Rattle.gs_script.specs.Rows as rows
use Rattle.gs_script.specs.Rows.{reads}
use Rattle.gs_script.proofs.PlainLines.{alone_added, number_read, spoken_added, spoken_read}
use Rattle.gs_script.proofs.plain_line.add_plain.Goals as goal

pub returns-in_ok-behind_affinity-in-97 : goal.returns-in_ok-behind_affinity-in-97
returns-in_ok-behind_affinity-in-97 g c = spoken_added g.P.NamedPolicy.naming (codes "affinity") (reads rows.affinity) _ _ _ _ _ refl refl refl (λ words. refl) c.in_ok-behind_affinity-in-97.ensures c.affinity.ensures

pub returns-in_ok-behind-in-98 : goal.returns-in_ok-behind-in-98
returns-in_ok-behind-in-98 g c = spoken_added g.P.NamedPolicy.naming (codes "block") (reads rows.block) _ _ _ _ _ refl refl refl (λ words. refl) c.in_ok-behind-in-98.ensures c.to_thread.ensures

pub returns-in_ok-mask-in-Some : goal.returns-in_ok-mask-in-Some
returns-in_ok-mask-in-Some g c = spoken_read g.P.NamedPolicy.naming (codes "commit") (reads rows.commit) (events.Commit c.new-mask.result) c.args.text.now c.in-Some.rest.now c.in_ok-mask-in-Some.left _ _ refl refl refl (λ words. refl) c.in-Some.ensures (rw c.new-mask.ensures (number_read events.Commit 340282366920938463463374607431768211455 c.in_ok-mask-in-Some.mask _ _ c.in_ok-mask-in-Some.ensures.number)) c.push_reserved.ensures.items

pub returns-in_ok-behind_create-in-None : goal.returns-in_ok-behind_create-in-None
returns-in_ok-behind_create-in-None g c = spoken_added g.P.NamedPolicy.naming (codes "create") (reads rows.create) _ _ _ _ _ refl refl refl (λ words. refl) c.in_ok-behind_create-in-None.ensures c.creation.ensures

pub returns-in_ok-max-in-114 : goal.returns-in_ok-max-in-114
returns-in_ok-max-in-114 g c = spoken_read g.P.NamedPolicy.naming (codes "drain") (reads rows.drain) (events.Drain c.in_ok-max-in-114.max) c.args.text.now c.in_ok-behind_drain-in-114.field-0.now c.in_ok-max-in-114.left _ _ refl refl refl (λ words. refl) c.in_ok-behind_drain-in-114.ensures (number_read events.Drain 4294967295 c.in_ok-max-in-114.max _ _ c.in_ok-max-in-114.ensures) c.push_reserved-in-114.ensures.items

pub returns-in_ok-left-in-101 : goal.returns-in_ok-left-in-101
returns-in_ok-left-in-101 g c = alone_added g.P.NamedPolicy.naming (codes "decide") events.Decide _ _ _ _ _ refl refl refl refl c.in_ok-behind_decide-in-101.ensures c.in_ok-left-in-101.ensures c.push_reserved-in-101.ensures.items

pub returns-in_ok-behind_die-in_default-2 : goal.returns-in_ok-behind_die-in_default-2
returns-in_ok-behind_die-in_default-2 g c = spoken_added g.P.NamedPolicy.naming (codes "die") (reads rows.die) _ _ _ _ _ refl refl refl (λ words. refl) c.in_ok-behind_die-in_default-2.ensures c.to_thread-in_default-2.ensures

pub returns-in_ok-cpu-in-103 : goal.returns-in_ok-cpu-in-103
returns-in_ok-cpu-in-103 g c = spoken_read g.P.NamedPolicy.naming (codes "give") (reads rows.give) c.of_kernel.result c.args.text.now c.in_ok-behind-in-103.field-0.now c.in_ok-cpu-in-103.left _ _ refl refl refl (λ words. refl) c.in_ok-behind-in-103.ensures (rw c.of_kernel.ensures (number_read (λ cpu. events.Kernel (commands.Give cpu)) 65535 c.in_ok-cpu-in-103.cpu _ _ c.in_ok-cpu-in-103.ensures)) c.push_reserved-in-103.ensures.items

pub returns-in_ok-cpu-in-104 : goal.returns-in_ok-cpu-in-104
returns-in_ok-cpu-in-104 g c = spoken_read g.P.NamedPolicy.naming (codes "handoff") (reads rows.handoff) c.of_kernel-in-104.result c.args.text.now c.in_ok-behind-in-104.field-0.now c.in_ok-cpu-in-104.left _ _ refl refl refl (λ words. refl) c.in_ok-behind-in-104.ensures (rw c.of_kernel-in-104.ensures (number_read (λ cpu. events.Kernel (commands.HandOff cpu)) 65535 c.in_ok-cpu-in-104.cpu _ _ c.in_ok-cpu-in-104.ensures)) c.push_reserved-in-104.ensures.items

pub returns-in_ok-number-in-108 : goal.returns-in_ok-number-in-108
returns-in_ok-number-in-108 g c = spoken_read g.P.NamedPolicy.naming (codes "late") (reads rows.late) (events.Late c.in_ok-number-in-108.number) c.args.text.now c.in_ok-behind-in-108.field-0.now c.in_ok-number-in-108.left _ _ refl refl refl (λ words. refl) c.in_ok-behind-in-108.ensures (number_read events.Late 4294967295 c.in_ok-number-in-108.number _ _ c.in_ok-number-in-108.ensures) c.push_reserved-in-108.ensures.items

pub returns-in_ok-max-in-112 : goal.returns-in_ok-max-in-112
returns-in_ok-max-in-112 g c = spoken_read g.P.NamedPolicy.naming (codes "page") (reads rows.page) (events.Page c.in_ok-max-in-112.max) c.args.text.now c.in_ok-behind-in-112.field-0.now c.in_ok-max-in-112.left _ _ refl refl refl (λ words. refl) c.in_ok-behind-in-112.ensures (number_read events.Page 65535 c.in_ok-max-in-112.max _ _ c.in_ok-max-in-112.ensures) c.push_reserved-in-112.ensures.items

pub returns-in-Some-behind_stamp : goal.returns-in-Some-behind_stamp
returns-in-Some-behind_stamp g c = spoken_added g.P.NamedPolicy.naming (codes "stamp") (reads rows.stamp) _ _ _ _ _ refl refl refl (λ words. refl) c.in-Some-behind_stamp.ensures c.stamp.ensures

pub returns-in_ok-left-in-None-behind_stamp : goal.returns-in_ok-left-in-None-behind_stamp
returns-in_ok-left-in-None-behind_stamp g c = alone_added g.P.NamedPolicy.naming (codes "state") events.State _ _ _ _ _ refl refl refl refl c.in_ok-behind-in-None-behind_stamp.ensures c.in_ok-left-in-None-behind_stamp.ensures c.push_reserved-in-None-behind_stamp.ensures.items

pub returns-in_ok-cpu-in-Some-behind : goal.returns-in_ok-cpu-in-Some-behind
returns-in_ok-cpu-in-Some-behind g c = spoken_read g.P.NamedPolicy.naming (codes "tick") (reads rows.tick) c.of_kernel-in-Some-behind.result c.args.text.now c.in-Some-behind.rest.now c.in_ok-cpu-in-Some-behind.left _ _ refl refl refl (λ words. refl) c.in-Some-behind.ensures (rw c.of_kernel-in-Some-behind.ensures (number_read (λ cpu. events.Kernel (commands.Tick cpu)) 65535 c.in_ok-cpu-in-Some-behind.cpu _ _ c.in_ok-cpu-in-Some-behind.ensures)) c.push_reserved-in-Some-behind.ensures.items

pub returns-in_ok-cpu-in-None-behind : goal.returns-in_ok-cpu-in-None-behind
returns-in_ok-cpu-in-None-behind g c = spoken_read g.P.NamedPolicy.naming (codes "take") (reads rows.take) c.of_kernel-in-None-behind.result c.args.text.now c.in_ok-behind-in-None-behind.field-0.now c.in_ok-cpu-in-None-behind.left _ _ refl refl refl (λ words. refl) c.in_ok-behind-in-None-behind.ensures (rw c.of_kernel-in-None-behind.ensures (number_read (λ cpu. events.Kernel (commands.Take cpu)) 65535 c.in_ok-cpu-in-None-behind.cpu _ _ c.in_ok-cpu-in-None-behind.ensures)) c.push_reserved-in-None-behind.ensures.items

pub returns-in_ok-left-in-117 : goal.returns-in_ok-left-in-117
returns-in_ok-left-in-117 g c = alone_added g.P.NamedPolicy.naming (codes "unread") events.Unread _ _ _ _ _ refl refl refl refl c.in_ok-behind-in-117.ensures c.in_ok-left-in-117.ensures c.push_reserved-in-117.ensures.items

pub returns-in_ok-left-in-118 : goal.returns-in_ok-left-in-118
returns-in_ok-left-in-118 g c = alone_added g.P.NamedPolicy.naming (codes "view") events.View _ _ _ _ _ refl refl refl refl c.in_ok-behind-in-118.ensures c.in_ok-left-in-118.ensures c.push_reserved-in-118.ensures.items

pub returns-in_ok-behind-in-119 : goal.returns-in_ok-behind-in-119
returns-in_ok-behind-in-119 g c = spoken_added g.P.NamedPolicy.naming (codes "wake") (reads rows.wake) _ _ _ _ _ refl refl refl (λ words. refl) c.in_ok-behind-in-119.ensures c.to_thread-in-119.ensures

pub returns-in_ok-behind-in-121 : goal.returns-in_ok-behind-in-121
returns-in_ok-behind-in-121 g c = spoken_added g.P.NamedPolicy.naming (codes "yield") (reads rows.yield) _ _ _ _ _ refl refl refl (λ words. refl) c.in_ok-behind-in-121.ensures c.to_thread-in-121.ensures
