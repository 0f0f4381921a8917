-- What an operation waits for: of each working replica a request or its answer is on its way, or the answer has been counted.
use Rattle.std.proofs.Common.{◌≡◌, ℕ, ◌+◌, ◌*◌, ◌<◌, ◌≤◌, true, false, ◌⊎◌, List, length, get_or, sym, refl, ap, ◌∙◌, subst, inl, inr, arith}
use Rattle.quorum.specs.Sets.{Rule, bits}
use Rattle.model.specs.declared.parties.Party.{Party}
use Rattle.model.specs.declared.reader.Phase.{Phase}
use Rattle.model.specs.declared.messages.MessageKind.{MessageKind}
use Rattle.model.specs.declared.writer.Writer.{Writer}
use Rattle.model.specs.declared.replica.Replica.{Replica}
use Rattle.model.specs.declared.reader.Reader.{Reader}
use Rattle.model.specs.declared.marks.RelayMark.{RelayMark}
use Rattle.model.specs.declared.messages.Message.{Message}
use Rattle.model.specs.State.{Held, index, new_replica, new_reader, new_mark}
use Rattle.model.specs.Deliveries.{to_all, in_first, in_second, in_relay}
use Rattle.model.specs.Claims.{In}
use Rattle.model.proofs.Lists.{one, in_to_all}

abbrev pub kind_code : MessageKind → ℕ
kind_code MessageKind.Put = 0
kind_code MessageKind.PutAck = 1
kind_code MessageKind.Query = 2
kind_code MessageKind.Have = 3
kind_code MessageKind.Back = 4
kind_code MessageKind.BackAck = 5
kind_code MessageKind.Fan = 6
kind_code MessageKind.Relay = 7
kind_code MessageKind.Reply = 8

abbrev pub mark_at : ℕ → List RelayMark → ℕ → ℕ → RelayMark
mark_at R ks i r = get_or ks (i * R + r) new_mark

-- Replica i has noted for operation j of reader r what replica c relayed.
pub record Noted (R : ℕ) (ks : List RelayMark) (j r c i : ℕ) : Type 0 where
  pub operation_is : (mark_at R ks i r).operation ≡ j
  pub has : bits (mark_at R ks i r).relayers c ≡ true

module _ {F : Type 0} (start : F) where
  -- Replica c of the table works.
  abbrev pub Awake : List (Replica F) → ℕ → Type 0
  Awake l c = (get_or l c (new_replica start)).halted ≡ false

module _ {F : Type 0} where
  -- Message m of operation j is of kind k, to replica c; or from it.

  pub record To (m : Message F) (k : MessageKind) (j c : ℕ) : Type 0 where
    pub kind_is : m.kind ≡ k
    pub operation_is : m.operation ≡ j
    pub receiver_is : m.receiver ≡ Party.Replica c

  pub record From (m : Message F) (k : MessageKind) (j c : ℕ) : Type 0 where
    pub kind_is : m.kind ≡ k
    pub operation_is : m.operation ≡ j
    pub sender_is : index m.sender ≡ c

  -- Such a message is on its way.

  pub record WaitsTo (t : List (Message F)) (k : MessageKind) (j c : ℕ) : Type 0 where
    pub what : Message F
    pub there : In what t
    pub is : To what k j c

  pub record WaitsFrom (t : List (Message F)) (k : MessageKind) (j c : ℕ) : Type 0 where
    pub what : Message F
    pub there : In what t
    pub is : From what k j c

  -- What replica c relayed is on its way to replica i.
  pub record Relays (t : List (Message F)) (j c i : ℕ) : Type 0 where
    pub what : Message F
    pub there : In what t
    pub is : To what MessageKind.Relay j i
    pub sender_is : index what.sender ≡ c

  abbrev pub Due : List (Message F) → MessageKind → MessageKind → ℕ → ℕ → ℕ → Type 0
  Due t a b j got c = (WaitsTo t a j c ⊎ WaitsFrom t b j c) ⊎ (bits got c ≡ true)

  pub waits_all : (size : ℕ) (k : MessageKind) (n : ℕ) (from : Party) (x : Held F) (c : ℕ) → c < size
      → WaitsTo (to_all size k n from x) k n c
  waits_all size k n from x c l = record {
    what = one k n from x c;
    there = in_to_all k n from x size c l;
    is = record { kind_is = refl; operation_is = refl; receiver_is = refl };
  }

  pub relays_all : (size n c : ℕ) (x : Held F) (from : Party) → index from ≡ c → (i : ℕ) → i < size
      → Relays (to_all size MessageKind.Relay n from x) n c i
  relays_all size n c x from e i l = record {
    what = one MessageKind.Relay n from x i;
    there = in_to_all MessageKind.Relay n from x size i l;
    is = record { kind_is = refl; operation_is = refl; receiver_is = refl };
    sender_is = e;
  }

  module _ (q : Rule) (start : F) (j : ℕ) where
    pub record Exchange (l : List (Replica F)) (t : List (Message F)) (a b : MessageKind) (got : ℕ) : Type 0 where
      pub unfinished : q.round (bits got) ≡ false
      pub due : (c : ℕ) → c < q.size → Awake start l c → Due t a b j got c

    pub record RelayLive (R : ℕ) (ks : List RelayMark) (l : List (Replica F)) (t : List (Message F)) (r got : ℕ) :
        Type 0 where
      pub unfinished : q.round (bits got) ≡ false
      pub asked : (c : ℕ) → c < q.size → Awake start l c
          → WaitsTo t MessageKind.Fan j c ⊎ ((i : ℕ) → i < q.size → Awake start l i → Relays t j c i ⊎ Noted R ks j r c i)
      pub rounds : (i : ℕ) → (mark_at R ks i r).operation ≡ j → q.round (bits (mark_at R ks i r).relayers) ≡ true
          → (mark_at R ks i r).replied ≡ true
      pub answers : (i : ℕ) → (mark_at R ks i r).operation ≡ j → (mark_at R ks i r).replied ≡ true → Awake start l i
          → WaitsFrom t MessageKind.Reply j i ⊎ (bits got i ≡ true)
      pub low : (i : ℕ) → (mark_at R ks i r).operation ≤ j

    abbrev pub ReaderLive : ℕ → List RelayMark → List (Replica F) → List (Message F) → ℕ → Phase → ℕ → Type 0
    ReaderLive R ks l t r Phase.Idle got = ⊥
    ReaderLive R ks l t r Phase.First got = Exchange l t MessageKind.Query MessageKind.Have got
    ReaderLive R ks l t r Phase.Second got = Exchange l t MessageKind.Back MessageKind.BackAck got
    ReaderLive R ks l t r Phase.Relay got = RelayLive R ks l t r got

    abbrev pub AtIt : ℕ → List RelayMark → List (Replica F) → List (Message F) → ℕ → Reader F → Type 0
    AtIt R ks l t r d = d.operation ≡ j → d.halted ≡ false → ReaderLive R ks l t r d.phase d.replies

    pub record Live (R : ℕ) (l : List (Replica F)) (t : List (Message F)) (ds : List (Reader F)) (ks : List RelayMark)
        (wr : Writer) : Type 0 where
      pub sized_marks : length ks ≡ q.size * R
      pub writer_live : wr.operation ≡ j → wr.halted ≡ false
          → Exchange l t MessageKind.Put MessageKind.PutAck wr.acknowledgers
      pub reader_live : (r : ℕ) → AtIt R ks l t r (get_or ds r (new_reader start))

    -- At most the message m₀ went, and no replica came to work.
    pub record Passes (l : List (Replica F)) (t : List (Message F)) (l' : List (Replica F)) (t' : List (Message F))
        (m₀ : Message F) : Type 0 where
      pub keeps : (m : Message F) → In m t → In m t' ⊎ (m ≡ m₀)
      pub awake : (c : ℕ) → Awake start l' c → Awake start l c

    -- What became of m₀, if it was of this exchange.
    abbrev pub Swaps : List (Replica F) → List (Message F) → Message F → MessageKind → MessageKind → ℕ → Type 0
    Swaps l' t' m₀ a b got' = (c : ℕ) → To m₀ a j c ⊎ From m₀ b j c → Awake start l' c → Due t' a b j got' c

    module _ (l' : List (Replica F)) (t' : List (Message F)) (m₀ : Message F) (a b : MessageKind) (got : ℕ) where
      -- m₀ was of another exchange.
      pub no_swap : (kind_code m₀.kind ≡ kind_code a → ⊥) → (kind_code m₀.kind ≡ kind_code b → ⊥)
          → Swaps l' t' m₀ a b got
      no_swap na nb c y k =
          elim y [ inl i ↦ absurd (na (ap kind_code i.kind_is)) | inr i ↦ absurd (nb (ap kind_code i.kind_is)) ]

      pub no_operation : (m₀.operation ≡ j → ⊥) → Swaps l' t' m₀ a b got
      no_operation n c y k = elim y [ inl i ↦ absurd (n i.operation_is) | inr i ↦ absurd (n i.operation_is) ]

      -- m₀ was a request, and is answered.
      pub answered : (kind_code m₀.kind ≡ kind_code b → ⊥) → (y : Message F) → In y t' → y.kind ≡ b
          → y.operation ≡ m₀.operation → y.sender ≡ m₀.receiver → Swaps l' t' m₀ a b got
      answered nb y i k o f c z _ = elim z [
        | inr d ↦ absurd (nb (ap kind_code d.kind_is))
        | inl d ↦ inl (inr (record { what = y; there = i; is = record { kind_is = k; operation_is = o ∙ d.operation_is; sender_is = ap index (f ∙ d.receiver_is) } }))
      ]

      -- m₀ was an answer, and has been counted.
      pub counted : (kind_code m₀.kind ≡ kind_code a → ⊥)
          → (m₀.operation ≡ j → bits got (index m₀.sender) ≡ true) → Swaps l' t' m₀ a b got
      counted na h c z _ = elim z [
        | inl i ↦ absurd (na (ap kind_code i.kind_is))
        | inr i ↦ inr (subst (λ n. bits got n ≡ true) i.sender_is (h i.operation_is))
      ]

    module _ (l' : List (Replica F)) (t' : List (Message F)) (m₀ : Message F) where
      -- What became of m₀ and of the marks, if it was of a relayed read of reader r; got' is what it has counted.
      pub record RelaySwaps (R : ℕ) (ks ks' : List RelayMark) (r got' : ℕ) : Type 0 where
        pub fan : (c : ℕ) → To m₀ MessageKind.Fan j c → Awake start l' c
            → WaitsTo t' MessageKind.Fan j c ⊎ ((i : ℕ) → i < q.size → Awake start l' i → Relays t' j c i ⊎ Noted R ks' j r c i)
        pub relay : (c i : ℕ) → To m₀ MessageKind.Relay j i → index m₀.sender ≡ c → Awake start l' i
            → Relays t' j c i ⊎ Noted R ks' j r c i
        pub reply : (i : ℕ) → From m₀ MessageKind.Reply j i
            → WaitsFrom t' MessageKind.Reply j i ⊎ (bits got' i ≡ true)
        pub noted : (c i : ℕ) → Noted R ks j r c i → Noted R ks' j r c i
        pub rounds : (i : ℕ) → (mark_at R ks' i r).operation ≡ j
            → q.round (bits (mark_at R ks' i r).relayers) ≡ true → (mark_at R ks' i r).replied ≡ true
        pub replied : (i : ℕ) → (mark_at R ks' i r).operation ≡ j → (mark_at R ks' i r).replied ≡ true
            → Awake start l' i
            → (((mark_at R ks i r).operation ≡ j) × ((mark_at R ks i r).replied ≡ true)) ⊎ WaitsFrom t' MessageKind.Reply j i
        pub low : (i : ℕ) → (mark_at R ks' i r).operation ≤ j

      -- m₀ was no message of a relayed read, or of another operation; the marks are the same.
      pub plain : (R : ℕ) (ks : List RelayMark) (r got : ℕ) → (6 ≤ kind_code m₀.kind → m₀.operation ≡ j → ⊥)
          → (l : List (Replica F)) (t : List (Message F)) → RelayLive R ks l t r got → RelaySwaps R ks ks r got
      plain R ks r got n l t e = record {
        fan = λ c y _. absurd (n (omega (arith, ap kind_code y.kind_is)) y.operation_is);
        relay = λ c i y _ _. absurd (n (omega (arith, ap kind_code y.kind_is)) y.operation_is);
        reply = λ i y. absurd (n (omega (arith, ap kind_code y.kind_is)) y.operation_is);
        noted = λ c i y. y;
        rounds = e.rounds;
        replied = λ i a b _. inl (a, b);
        low = e.low;
      }

    module _ (l : List (Replica F)) (t : List (Message F)) (l' : List (Replica F)) (t' : List (Message F))
        (m₀ : Message F) (p : Passes l t l' t' m₀) where
      pub carry : (a b : MessageKind) (got got' : ℕ) → Swaps l' t' m₀ a b got'
          → q.round (bits got') ≡ false → ((c : ℕ) → bits got c ≡ true → bits got' c ≡ true) → Exchange l t a b got
          → Exchange l' t' a b got'
      carry a b got got' w o more e = record {
        unfinished = o;
        due = λ c n k. elim (e.due c n (p.awake c k)) [
          | inr i ↦ inr (more c i)
          | inl y ↦ elim y [
            | inl z ↦ elim (p.keeps z.what z.there) [
              | inl i ↦ inl (inl (record { what = z.what; there = i; is = z.is }))
              | inr d ↦ w c (inl (subst (λ m. To m a j c) d z.is)) k
            ]
            | inr z ↦ elim (p.keeps z.what z.there) [
              | inl i ↦ inl (inr (record { what = z.what; there = i; is = z.is }))
              | inr d ↦ w c (inr (subst (λ m. From m b j c) d z.is)) k
            ]
          ]
        ];
      }

      pub relay_carry : (R : ℕ) (ks ks' : List RelayMark) (r got got' : ℕ) → RelaySwaps l' t' m₀ R ks ks' r got'
          → q.round (bits got') ≡ false → ((c : ℕ) → bits got c ≡ true → bits got' c ≡ true)
          → RelayLive R ks l t r got → RelayLive R ks' l' t' r got'
      relay_carry R ks ks' r got got' w o more e = record {
        unfinished = o;
        rounds = w.rounds;
        low = w.low;
        asked = λ c n k. elim (e.asked c n (p.awake c k)) [
          | inl z ↦ elim (p.keeps z.what z.there) [
            | inl i ↦ inl (record { what = z.what; there = i; is = z.is })
            | inr d ↦ w.fan c (subst (λ m. To m MessageKind.Fan j c) d z.is) k
          ]
          | inr f ↦ inr (λ i h a. elim (f i h (p.awake i a)) [
            | inr y ↦ inr (w.noted c i y)
            | inl y ↦ elim (p.keeps y.what y.there) [
              | inl b ↦ inl (record { what = y.what; there = b; is = y.is; sender_is = y.sender_is })
              | inr d ↦ w.relay c i (subst (λ m. To m MessageKind.Relay j i) d y.is) (ap (λ m. index m.sender) (sym d) ∙ y.sender_is) a
            ]
          ])
        ];
        answers = λ i a b h. elim (w.replied i a b h) [
          | inr y ↦ inl y
          | inl y ↦ elim (e.answers i y.0 y.1 (p.awake i h)) [
            | inr z ↦ inr (more i z)
            | inl z ↦ elim (p.keeps z.what z.there) [
              | inl b ↦ inl (record { what = z.what; there = b; is = z.is })
              | inr d ↦ w.reply i (subst (λ m. From m MessageKind.Reply j i) d z.is)
            ]
          ]
        ];
      }

      -- A reader that goes on as it was.
      pub reader_carry : (R : ℕ) (ks ks' : List RelayMark) (r : ℕ) (d : Reader F)
          → (d.operation ≡ j → d.halted ≡ false → in_first d.phase ≡ true → Swaps l' t' m₀ MessageKind.Query MessageKind.Have d.replies)
          → (d.operation ≡ j → d.halted ≡ false → in_second d.phase ≡ true → Swaps l' t' m₀ MessageKind.Back MessageKind.BackAck d.replies)
          → (d.operation ≡ j → d.halted ≡ false → in_relay d.phase ≡ true → RelayLive R ks l t r d.replies → RelaySwaps l' t' m₀ R ks ks' r d.replies)
          → AtIt R ks l t r d → AtIt R ks' l' t' r d
      reader_carry R ks ks' r d s1 s2 s3 x o k = go d.phase (s1 o k) (s2 o k) (s3 o k) (x o k)
        where
          go : (ph : Phase) → (in_first ph ≡ true → Swaps l' t' m₀ MessageKind.Query MessageKind.Have d.replies)
              → (in_second ph ≡ true → Swaps l' t' m₀ MessageKind.Back MessageKind.BackAck d.replies)
              → (in_relay ph ≡ true → RelayLive R ks l t r d.replies → RelaySwaps l' t' m₀ R ks ks' r d.replies)
              → ReaderLive R ks l t r ph d.replies → ReaderLive R ks' l' t' r ph d.replies
          go Phase.Idle a b c y = y
          go Phase.First a b c y =
              carry MessageKind.Query MessageKind.Have d.replies d.replies (a refl) y.unfinished (λ _ i. i) y
          go Phase.Second a b c y =
              carry MessageKind.Back MessageKind.BackAck d.replies d.replies (b refl) y.unfinished (λ _ i. i)
              y
          go Phase.Relay a b c y =
              relay_carry R ks ks' r d.replies d.replies (c refl y) y.unfinished (λ _ i. i) y

      pub writer_carry : (wr : Writer)
          → (wr.operation ≡ j → wr.halted ≡ false → Swaps l' t' m₀ MessageKind.Put MessageKind.PutAck wr.acknowledgers)
          → (wr.operation ≡ j → wr.halted ≡ false → Exchange l t MessageKind.Put MessageKind.PutAck wr.acknowledgers)
          → wr.operation ≡ j → wr.halted ≡ false
          → Exchange l' t' MessageKind.Put MessageKind.PutAck wr.acknowledgers
      writer_carry wr sw x o k = let y = x o k in carry MessageKind.Put MessageKind.PutAck wr.acknowledgers wr.acknowledgers (sw o k) y.unfinished (λ _ i. i) y
