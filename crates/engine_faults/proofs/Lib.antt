mod ToTell
mod RuleFaults
mod StepFaults
mod NodeFaults
mod QuestionFaults
mod RefusalFaults
mod ToldFaults
mod KeywordFaults
