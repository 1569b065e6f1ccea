use Rattle.std.proofs.Common.{sym, ap, ◌∙◌, subst}
use Rattle.wjs_scope.specs.declared.place.Place.{Place}
use Rattle.wjs_by_content.specs.Tables.{text_in, name_in}
use Rattle.wjs_by_content.specs.Objects.{scope_up}
use Rattle.wjs_base.specs.Text.{Table}
use Rattle.wjs_by_content.specs.Values.{Text}
use Rattle.wjs_meaning.specs.Deeds.{Do, Look, Local, Global, Reference}
use Rattle.wjs_meaning.specs.References as line
use Rattle.wjs_model.specs.Units.{place_in}
use Rattle.wjs_frames.specs.Doing.{Does}
use Rattle.wjs_frames.specs.Parts.{env_in}
use Rattle.wjs_heap_steps.proofs.Composing.{does_same, does_map}
use Rattle.wjs_heap_steps.proofs.Peeking.{peeks_as, peeks_at_once, peeks_look, peeks_map}
use Rattle.wjs_heap_steps.proofs.references.reference_at.Goals as goal

pub returns-in-Local-clause-does : goal.returns-in-Local-clause-does
returns-in-Local-clause-does g c =
    let m = g.S.WorldStore.meaning in
    let old = c.args.config.now in
    let id = c.args.id in
    let name = c.name_of-name.result in
    let out = c.scope_up.result in
    does_same m (λ t go. Do Look (λ arena. go (Local (scope_up arena c.in-Local.hops c.args.frame.now.scope) (text_in t id)))) (λ t. line.reference_at (place_in c.args.place) (text_in t id) (env_in m old t c.args.frame.now)) (λ t. Local out (text_in t id)) (λ t. Local out (name_in t name)) old old
    (λ t more go. sym (ap (λ (p : Place). line.reference_at (place_in p) (text_in t id) (env_in m old t c.args.frame.now) go) c.in-Local.is))
    (λ t more. ap (Local out) (sym (c.name_of-name.ensures.name t more)))
    (does_map m (λ t go. Do Look (λ arena. go (scope_up arena c.in-Local.hops c.args.frame.now.scope))) (λ t. out) (λ t x. Local x (text_in t id)) old old
    (subst (λ s. Does m (λ t go. Do Look (λ arena. go (scope_up arena c.in-Local.hops s))) (λ t. out) old old) c.scope.ensures c.scope_up.ensures.does))

pub returns-in-Global-clause-peeks : goal.returns-in-Global-clause-peeks
returns-in-Global-clause-peeks g c =
    let m = g.S.WorldStore.meaning in
    let now = c.args.config.now in
    let name = c.name_of-name.result in
    let answer : Table → Reference = λ t. Global (name_in t name) in
    peeks_as m (λ t go. go (answer t)) (λ t. line.reference_at (place_in c.args.place) (text_in t c.args.id) (env_in m now t c.args.frame.now)) answer now
    (λ t more go. ap (λ (x : Text). go (Global x)) (c.name_of-name.ensures.name t more) ∙ sym (ap (λ (p : Place). line.reference_at (place_in p) (text_in t c.args.id) (env_in m now t c.args.frame.now) go) c.in-Global.is))
    (peeks_at_once m answer now)

pub returns-in-Local-clause-peeks : goal.returns-in-Local-clause-peeks
returns-in-Local-clause-peeks g c =
    let m = g.S.WorldStore.meaning in
    let now = c.args.config.now in
    let hops = c.in-Local.hops in
    let scope = c.args.frame.now.scope in
    let name = c.name_of-name.result in
    let out = c.scope_up.result in
    let answer : Table → Reference = λ t. Local out (name_in t name) in
    peeks_as m (λ t go. Do Look (λ arena. go (Local (scope_up arena hops scope) (name_in t name)))) (λ t. line.reference_at (place_in c.args.place) (text_in t c.args.id) (env_in m now t c.args.frame.now)) answer now
    (λ t more go. ap (λ (x : Text). Do Look (λ arena. go (Local (scope_up arena hops scope) x))) (c.name_of-name.ensures.name t more) ∙ sym (ap (λ (p : Place). line.reference_at (place_in p) (text_in t c.args.id) (env_in m now t c.args.frame.now) go) c.in-Local.is))
    (peeks_map m (λ t go. Do Look (λ arena. go (scope_up arena hops scope))) (λ t. out) (λ t x. Local x (name_in t name)) now
    (peeks_look m (λ t arena. scope_up arena hops scope) (λ t. out) now (λ t more arena s. ap (scope_up arena hops) (sym c.scope.ensures) ∙ c.scope_up.ensures.is t arena s)))
