-- A packet, where its connection is noted first.
use Rattle.std.proofs.Common.{◌≡◌, ◌∙◌, ap, sym, refl, ℕ, zero, suc, Bool, true, false, List, [], ◌∷◌, Some}
use Rattle.std.specs.Prelude.{◌++◌, slice_get, slice_set}
use Rattle.xns_idp.specs.Packet.{PacketModel}
use Rattle.xns_lines.specs.declared.page.Page.{Page}
use Rattle.xns_spp.specs.declared.header.Header.{Header}
use Rattle.xns_dump.specs.declared.flows.flow.Flow.{Flow}
use Rattle.xns_calls.specs.Acknowledged.{due_in, given_in, noted_beside}
use Rattle.xns_calls.specs.Capture.{Known, after_at, after_in, after_scene, after_there, heading_at, is_behind_in, known, repeats_told, scene_in, settled_at, settled_there, taken_in, wants_at, wants_in, with_scene}
use Rattle.xns_calls.specs.Read.{handled, settled}
use Rattle.xns_calls.specs.Repeats.{repeats_text, tells_repeats}
use Rattle.xns_calls.specs.Exchange.{Scene, after_packet, scene, scene_seen, wants_memory}
use Rattle.xns_calls.specs.declared.connection.Connection.{Connection}
use Rattle.xns_calls.specs.declared.due.Due.{Due}
use Rattle.xns_calls.specs.declared.origin.Origin.{Origin}
use Rattle.xns_calls.specs.declared.side.Side.{Side}
use Rattle.xns_calls.proofs.Others.{get_same}
use Rattle.xns_calls.proofs.Wanted.{in_wants, memory_wants}

set_set : (cs : List Connection) (i : ℕ) (c d : Connection) → slice_set (slice_set cs i c) i d ≡ slice_set cs i d
set_set [] i c d = refl
set_set (x ∷ cs) zero c d = refl
set_set (x ∷ cs) (suc i) c d = ap (λ xs. x ∷ xs) (set_set cs i c d)

-- what is read at a connection's place is read of that connection
pub read_there : (n : Origin) (i : ℕ) (b : Bool) (k : Known) (c : Connection) → slice_get k.connections i ≡ Some c → settled_at n i b k ≡ settled_there n i b (Some c) k
unfolding settled_at
read_there n i b k c there = ap (λ o. settled_there n i b o k) there

-- what is read where a scene was put
settled_again : (n : Origin) (i : ℕ) (b : Bool) (c : Connection) (s : Scene) (k : Known)
    → settled_there n i b (Some (with_scene b s c)) (after_scene i b c s k) ≡ after_scene i b c (settled (heading_at n c.number b) (given_in b c) s) k
settled_again n i true c s k =
    let z = settled (heading_at n c.number true) (given_in true c) s in
    ap (λ cs. record k { connections = cs; text = z.text; is_refused = z.is_refused }) (set_set k.connections i (with_scene true s c) (with_scene true z c))
settled_again n i false c s k =
    let z = settled (heading_at n c.number false) (given_in false c) s in
    ap (λ cs. record k { connections = cs; text = z.text; is_refused = z.is_refused }) (set_set k.connections i (with_scene false s c) (with_scene false z c))

pub fused : (n : Origin) (i : ℕ) (b : Bool) (packet : PacketModel) (f : Header) (content : List ℕ) (c : Connection) (k : Known) → slice_get k.connections i ≡ Some c
    → after_in n i b packet f content c k
    ≡ after_scene i b (noted_beside b f c) (handled (heading_at n c.number b) (due_in b f c) packet f content (scene_in b c (repeats_told n b f c k))) (repeats_told n b f c k)
fused n i true packet f content c k there =
    let told = repeats_told n true f c k in
    let s = after_packet (heading_at n c.number true) (due_in true f c) packet f content (scene_in true c told) in
    let c' = with_scene true s (noted_beside true f c) in
    read_there n i true (taken_in n i true packet f content c told) c' (get_same k.connections i c c' there) ∙ settled_again n i true (noted_beside true f c) s told
fused n i false packet f content c k there =
    let told = repeats_told n false f c k in
    let s = after_packet (heading_at n c.number false) (due_in false f c) packet f content (scene_in false c told) in
    let c' = with_scene false s (noted_beside false f c) in
    read_there n i false (taken_in n i false packet f content c told) c' (get_same k.connections i c c' there) ∙ settled_again n i false (noted_beside false f c) s told

-- the line that tells of repeats is printed first, if there is one
told_is : (n : Origin) (b : Bool) (f : Header) (c : Connection) (cs : List Connection) (count : ℕ) (page page' : Page)
    → page'.text.line ≡ page.text.line ++ repeats_text (heading_at n c.number b) (tells_repeats b f c) → page'.is_refused ≡ page.is_refused
    → known cs count page' ≡ repeats_told n b f c (known cs count page)
told_is n b f c cs count page page' text refused =
    let k : Known = known cs count page' in
    ap (λ x. record k { text = x }) text
    ∙ ap (λ x. record k { text = page.text.line ++ repeats_text (heading_at n c.number b) (tells_repeats b f c); is_refused = x }) refused

noted_scene : (b : Bool) (f : Header) (c : Connection) (k : Known) → scene_in b (noted_beside b f c) k ≡ scene_in b c k
noted_scene true f c k = refl
noted_scene false f c k = refl

-- a packet of a flow, whichever of the two that is
side_taken : (n : Origin) (i : ℕ) (flow : Flow) (packet : PacketModel) (f : Header) (content : List ℕ) (cs : List Connection) (count : ℕ) (page page' : Page) (c note : Connection) (due : Due) (s : Scene) (b : Bool)
    → slice_get cs i ≡ Some c → b ≡ is_behind_in flow c
    → page'.text.line ≡ page.text.line ++ repeats_text (heading_at n c.number b) (tells_repeats b f c) → page'.is_refused ≡ page.is_refused
    → note ≡ noted_beside b f c → due ≡ due_in b f c
    → s ≡ handled (heading_at n c.number b) due packet f content (scene_in b note (known cs count page'))
    → after_scene i b note s (known cs count page) ≡ after_at n i flow packet f content (known cs count page)
unfolding after_at
side_taken n i flow packet f content cs count page page' c note due s b there side text refused noted_is due_is e =
    let k = known cs count page in
    let k' = known cs count page' in
    let h = heading_at n c.number b in
    ap (λ (x : Connection). after_scene i b x s k) noted_is
    ∙ ap (λ (z : Scene). after_scene i b (noted_beside b f c) z k)
    (e ∙ ap (λ d. handled h d packet f content (scene_in b note k')) due_is
    ∙ ap (λ (x : Connection). handled h (due_in b f c) packet f content (scene_in b x k')) noted_is
    ∙ ap (λ (x : Scene). handled h (due_in b f c) packet f content x) (noted_scene b f c k'))
    ∙ ap (λ (x : Known). after_scene i b (noted_beside b f c) (handled h (due_in b f c) packet f content (scene_in b c x)) x)
    (told_is n b f c cs count page page' text refused)
    ∙ sym (fused n i b packet f content c k there)
    ∙ ap (λ p. after_in n i p packet f content c k) side
    ∙ sym (ap (λ o. after_there n i flow packet f content o k) there)

-- a packet of one of two flows, which are then put back in their connection
pub flow_taken : (n : Origin) (i : ℕ) (flow : Flow) (packet : PacketModel) (f : Header) (content : List ℕ) (cs : List Connection) (count : ℕ) (page page' page'' : Page) (c note : Connection) (due : Due) (first second : Side) (b : Bool)
    → slice_get cs i ≡ Some c → b ≡ is_behind_in flow c
    → page'.text.line ≡ page.text.line ++ repeats_text (heading_at n c.number b) (tells_repeats b f c) → page'.is_refused ≡ page.is_refused
    → note ≡ noted_beside b f c → due ≡ due_in b f c
    → scene_seen b first second page'' ≡ handled (heading_at n c.number b) due packet f content (scene_seen b note.first note.second page')
    → known (slice_set cs i (record note { first = first; second = second })) count page'' ≡ after_at n i flow packet f content (known cs count page)
flow_taken n i flow packet f content cs count page page' page'' c note due first second true there side text refused noted_is due_is e =
    side_taken n i flow packet f content cs count page page' c note due (scene second first page'') true there side text refused noted_is due_is e
flow_taken n i flow packet f content cs count page page' page'' c note due first second false there side text refused noted_is due_is e =
    side_taken n i flow packet f content cs count page page' c note due (scene first second page'') false there side text refused noted_is due_is e

-- what is printed, and noted of the packet, does not change whether memory is wanted
noted_wants : (b : Bool) (due : Due) (f : Header) (cs : List Connection) (count : ℕ) (page page' : Page) (c : Connection)
    → wants_memory due f (scene_seen b (noted_beside b f c).first (noted_beside b f c).second page') ≡ wants_memory due f (scene_in b c (known cs count page))
noted_wants true due f cs count page page' c = refl
noted_wants false due f cs count page page' c = refl

pub packet_wants : (i : ℕ) (flow : Flow) (f : Header) (cs : List Connection) (count : ℕ) (page page' : Page) (c note : Connection) (due : Due) (b : Bool)
    → slice_get cs i ≡ Some c → b ≡ is_behind_in flow c → note ≡ noted_beside b f c → due ≡ due_in b f c
    → wants_memory due f (scene_seen b note.first note.second page') ≡ true → wants_at i flow f (known cs count page) ≡ true
packet_wants i flow f cs count page page' c note due b there side noted_is due_is wants =
    let k = known cs count page in
    let before : wants_memory due f (scene_seen b note.first note.second page') ≡ wants_memory (due_in b f c) f (scene_in b c k) =
    ap (λ d. wants_memory d f (scene_seen b note.first note.second page')) due_is
    ∙ ap (λ (x : Connection). wants_memory (due_in b f c) f (scene_seen b x.first x.second page')) noted_is
    ∙ noted_wants b (due_in b f c) f cs count page page' c in
    in_wants i flow f c k there (sym (ap (λ p. wants_in p f c k) side) ∙ memory_wants b f c k (sym before ∙ wants))
