pub mod FlowTexts
